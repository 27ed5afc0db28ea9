use Rattle.plain_text.proofs.QuoteLemmas.{quoted_seen, quoted_width}
use Rattle.plain_text.proofs.quotes.quoted_line_is_seen.Goals as goal

pub returns-clause-seen : goal.returns-clause-seen
returns-clause-seen c bytes = quoted_seen bytes

pub returns-clause-width : goal.returns-clause-width
returns-clause-width c bytes = quoted_width bytes
