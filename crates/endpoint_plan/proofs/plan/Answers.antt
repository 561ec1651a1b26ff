use Rattle.std.proofs.Common.{◌≡◌, Ok, ℕ, rules, arith}
use Rattle.frame.specs.declared.Message.TheVariants as message
use Rattle.endpoint_plan.specs.Internal.{follows}
use Rattle.endpoint_plan.proofs.plan.Goals as goal

pub returns-in-Frame : goal.returns-in-Frame
unfolding follows
returns-in-Frame c =
    let e : c.args.message ≡ Ok (message.Frame c.in-Frame.header) = search rules in
    rw e (record { comes = c.hear.ensures; refuses = λ k h. absurd (let z : ◌≡◌ {A = ℕ} 0 1 = cc in omega arith) })
