use Rattle.std.proofs.Common.{ℕ, ◌≡◌, ◌<◌, [], ◌∷◌, refl, sym, ◌∙◌, arith}
use lib.Dec.{ltb, eqb}
use borrow.Author.Tests.{lt-ltb}
use Rattle.octets.specs.Sizes.{last_number, queue_size}
use Rattle.octets.specs.Test.{first, when}
use Rattle.octets.proofs.Test.{all_before}
use Rattle.frame.specs.Frame.{send}
use Rattle.protocol.specs.Endpoint.{established}
use Rattle.protocol.specs.Requests.{refusal, request_questions, accept}
use Rattle.step_rules.specs.Internal.{holding}
use Rattle.step_plan.proofs.Comes.{joins}
use Rattle.step_request.proofs.Requests.{allowed}
use Rattle.step_request.proofs.send.Goals as goal

-- questions 8 to 10, where 8 and 9 let pass
placed : (s t w : ℕ) → 0 ≡ first ((8, eqb s established) ∷ (9, ltb t last_number) ∷ []) → w < queue_size
    → 0 ≡ first ((8, eqb s established) ∷ (9, ltb t last_number) ∷ (10, ltb w queue_size) ∷ [])
unfolding first when
placed s t w h m = sym (all_before ((8, eqb s established) ∷ (9, ltb t last_number) ∷ []) ((10, ltb w queue_size) ∷ []) (tt, (tt, tt)) (sym h) ∙ rw (lt-ltb w queue_size m) refl)

pub returns : goal.returns
unfolding refusal request_questions accept
returns c = λ z b lo hi q h old w o lz.
    let n = c.args.n in
    joins n q h b old w c.if-n-ge-QUEUE_SIZE.false lo hi
    (allowed (holding n q h) (send b) (placed n.state n.accepted _ c.in_ok-admit.ensures (omega (arith, w)))) c.join.ensures
