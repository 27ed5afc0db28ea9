use Rattle.std.proofs.Common.{◌≡◌, ◌+◌, ◌++◌, length, string_bytes}
use Rattle.program.specs.Trials.{after_all, answer_lines, lists_of}
use Rattle.program.proofs.trials.try_all.Given as goal

abbrev pub invariant-loop-line : goal.invariant-loop-line
invariant-loop-line l =
    let base = l.fn.session.base in
    let left = l.line-iterator in
    record {
      same_base : l.session.base ≡ base;
      count : l.number + length left ≡ length l.fn.edits;
      answers : string_bytes l.text ++ answer_lines base (lists_of l.session) (l.number + 1) left ≡ answer_lines base (lists_of l.fn.session) 1 l.fn.edits;
      lists : after_all base (lists_of l.session) left ≡ after_all base (lists_of l.fn.session) l.fn.edits;
    }
