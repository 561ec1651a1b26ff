use Rattle.std.proofs.Common.{◌≡◌, Option, Some, None, sym, ap, ◌∙◌, rules}
use Rattle.frame.specs.declared.Class.{Class}
use Rattle.frame.specs.declared.Class.TheVariants as class
use Rattle.line_answer.proofs.Plans.{makes, call_made}
use Rattle.line_answer.proofs.call_in.Goals as goal

pub returns-in-Some-Request : goal.returns-in-Some-Request
returns-in-Some-Request c = let e : c.class_of.result ≡ Some class.Request = search rules in sym (call_made c.args.s.now ∙ ap makes (sym c.class_of.ensures ∙ e))

pub returns-in-Some-Frame : goal.returns-in-Some-Frame
returns-in-Some-Frame c = let e : c.class_of.result ≡ Some class.Frame = search rules in sym (call_made c.args.s.now ∙ ap makes (sym c.class_of.ensures ∙ e))

pub returns-in-Some-Frame-2 : goal.returns-in-Some-Frame-2
returns-in-Some-Frame-2 c =
    let e : ◌≡◌ {A = Option Class} c.class_of.result None = search rules in
    sym (call_made c.args.s.now ∙ ap makes (sym c.class_of.ensures ∙ e))
