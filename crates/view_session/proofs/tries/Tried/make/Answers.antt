use Rattle.std.proofs.Common.{subst, sym}
use Rattle.view_session.specs.Trails.{IsTrail}
use Rattle.view_session.proofs.TrailLemmas.{tried_on}
use Rattle.view_session.proofs.tries.Tried.make.Goals as goal

pub returns-in-Ok-apply-clause-trail : goal.returns-in-Ok-apply-clause-trail
returns-in-Ok-apply-clause-trail c = λ from h.
    let s = c.self.inside.session in
    let made = c.in-Ok-apply.ensures.made in
    tried_on s.base c.apply.new.self.base from s.ops c.apply.new.self.ops s.past c.apply.new.self.past _ _ c.args.line.now c.args.edit
    c.in-Ok-apply.ensures.base c.requires.form c.requires.one made.0 made.1 made.2
    c.in-Ok.ensures.kept
    (subst (IsTrail from) (sym c.self.view_is) h)
