use Rattle.std.proofs.Common.{ℕ, ◌≡◌, List, [], get_or, refl, sym, ap, ◌∙◌, arith, None}
use lib.ListN.{length}
use Rattle.octets.specs.Test.{first, if_eq, when, ok}
use Rattle.frame.specs.Frame.{Block, collect}
use Rattle.protocol.specs.Endpoint.{lengths_of}
use Rattle.protocol.specs.Table.{none}
use Rattle.protocol.specs.Requests.{refusal, request_questions, accept}
use Rattle.protocol.proofs.Sound.{length_at}
use Rattle.step_rules.specs.Internal.{holding}
use Rattle.step_plan.specs.Internal.{sent_by}
use Rattle.step_plan.proofs.Comes.{keeps, hands}
use Rattle.step_request.proofs.Requests.{allowed, collected-none, collected-some}
use Rattle.step_request.proofs.collect.Goals as goal

-- the first of the held blocks, by its length
first_held : (h : List Block) (z : List ℕ) → lengths_of h ≡ z → length (get_or h 0 []) ≡ get_or z 0 0
first_held h z lz = sym (length_at h 0) ∙ ap (λ (l : List ℕ). get_or l 0 0) lz

pub returns-then-held-eq0 : goal.returns-then-held-eq0
unfolding refusal request_questions accept sent_by first when
returns-then-held-eq0 c = λ b q h old w o lz.
    let a = holding c.args.n q h in
    keeps c.args.n q h b old w none None
    (allowed a collect (rw c.if-n-ne-ESTABLISHED.false refl) ∙ ap ok (collected-none a (get_or h 0 []) (first_held h _ lz ∙ c.if-held-eq0.true))) c.keep.ensures

pub returns : goal.returns
unfolding refusal request_questions accept sent_by first if_eq when
returns c = λ b q h old w o lz.
    let a = holding c.args.n q h in
    hands c.args.n q h b old w _ lz c.told-held (get_or h 0 [])
    (allowed a collect (rw c.if-n-ne-ESTABLISHED.false refl) ∙ ap ok (collected-some a (get_or h 0 []) (omega (arith, first_held h _ lz)))) c.hand_up.ensures
