use Rattle.std.proofs.lemmas.Result.{on_ok_weaker}
use Rattle.view_curves.proofs.StretchLemmas.{stretch_added}
use Rattle.view_curves.proofs.decimation.add_stretch.Goals as goal

pub returns-in-Some : goal.returns-in-Some
returns-in-Some c =
    on_ok_weaker c.add_ends.result (λ added. stretch_added c.args.curve.now c.args.start c.args.end c.in-Some.ends c.args.drawn.now.items c.add_ends.new.drawn.items c.in-Some.ensures added) c.add_ends.ensures
