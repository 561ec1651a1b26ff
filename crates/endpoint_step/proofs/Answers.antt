-- What a call by value answers, from its plan.
use Prim.Native.Nat.{ℕ}
use mathlib.Core.Path.{◌≡◌, refl, sym, ap, ap₂, ◌∙◌}
use mathlib.Core.List.{List, []}
use lib.ListN.{length}
use Rattle.octets.specs.Test.{Outcome, refused, ok, mapped, number_of}
use Rattle.octets.specs.Octets.{left}
use Rattle.frame.specs.Frame.{Block}
use Rattle.frame.specs.Read.{cut_block}
use Rattle.protocol.specs.Table.{Step}
use Rattle.call_spec.specs.declared.Call.{Call}
use Rattle.call_spec.specs.declared.Call.TheVariants as call
use Rattle.call_spec.specs.Calls.{Arguments, Rooms, wire, buffer_after, page_after}
use Rattle.call_spec.specs.Answers.{notice_of, sent_in, block_of, block_part, block_buffer_after, endpoint_after}
use Rattle.step_plan.specs.declared.Plan.{Plan}
use Rattle.step_plan.specs.Internal.{told_notice, block_by, block_out, sent_by, Sends}
use Rattle.endpoint.specs.declared.Endpoint.{Endpoint}
use Rattle.endpoint.specs.View.{pack, place_block, view}
use Rattle.endpoint.proofs.Packs.{Long}
use Rattle.endpoint_places.specs.Internal.{carried, block_from, HandsUp}
use Rattle.endpoint_plan.specs.Calls.{outcome_of}
use Rattle.endpoint_plan.specs.Internal.{PlansFor}
use Rattle.endpoint_plan.proofs.Carries.{same, leaves, hands-up, hands_is, stands, sends, sends_is}
use Rattle.endpoint_step.specs.declared.StepAnswer.{StepAnswer}
use Rattle.endpoint_step.specs.Calls.{step_answer_of, Advances}
use Rattle.endpoint_step.specs.Internal.{Finishes}

-- the parts of an accepted answer
accepted_is : (e : Endpoint) → pack (view e) ≡ e → (o : Outcome Step) → number_of o ≡ 0
    → {a : Endpoint} → a ≡ pack (endpoint_after (view e) o) → {n : ℕ} → n ≡ notice_of o → {m : ℕ} → m ≡ length (wire (sent_in o)) → {k : ℕ} → k ≡ length (block_of o)
    → record { number = 0; endpoint = a; notice = n; sent = m; block = k } ≡ step_answer_of e o
unfolding number_of step_answer_of notice_of sent_in block_of wire endpoint_after
accepted_is e w (refused n) z ea en em ek = λ i. record { number = sym z i; endpoint = (ea ∙ w) i; notice = en i; sent = em i; block = ek i }
accepted_is e w (ok x) z ea en em ek = λ i. record { number = 0; endpoint = ea i; notice = en i; sent = em i; block = ek i }

block_is : (e : Endpoint) (o : Outcome Step) → (step_answer_of e o).block ≡ length (block_of o)
unfolding block_of step_answer_of
block_is e (refused n) = refl
block_is e (ok x) = refl

-- what a plan's stores leave
module _ (e : Endpoint) (long : Long e) (c : Call) (r : Rooms) (b : Block) (o : Outcome Step) {p : Plan} (w : PlansFor c r e b o p) where
  answers : {a : StepAnswer} {out u out' u' : List ℕ} → a ≡ step_answer_of e o → out' ≡ buffer_after out o → u' ≡ block_buffer_after c u o → Finishes c e b o out u out' u' a
  answers {u = u} h k m =
      record {
        answer = h;
        octets = k;
        block_octets = m;
        block = ap₂ (λ (x : StepAnswer) (l : List ℕ). block_part c b l x.block) h m ∙ ap (block_part c b (block_buffer_after c u o)) (block_is e o) ∙ stands e long c r b o w u;
      }

  pub accepts : {out out' : List ℕ} {n : ℕ} → Sends (sent_by p.reply (block_out p.queue b (place_block e.lengths e.blocks 0))) out out' n
      → {u u' : List ℕ} {m : ℕ} → HandsUp c (block_by (told_notice p.notice) (block_from c e.held_lengths e.held_blocks b)) u u' m
      → {a : Endpoint} → a ≡ carried p b e → {i : ℕ} → i ≡ told_notice p.notice
      → Finishes c e b o out u out' u' (record { number = 0; endpoint = a; notice = i; sent = n; block = m })
  accepts {out} s {u} h a i =
      let t = sends e long c r b o w s in
      let g = rw (hands-up e long c r b o w) at h in
      answers (accepted_is e (same e w.is_sound long) o w.comes.accepted (a ∙ leaves e long c r b o w) (i ∙ w.comes.notice) t.count g.count) (sends_is out o t) (hands_is c u o g)

-- a refusal leaves all
no_part : (k : Call) (b u : List ℕ) → block_part k b u 0 ≡ []
unfolding block_part
no_part call.Request b u = refl
no_part call.Receive b u = refl

none_handed : (k : Call) (u : List ℕ) (n : ℕ) → u ≡ block_buffer_after k u (refused n)
unfolding block_buffer_after mapped left
none_handed call.Request u n = refl
none_handed call.Receive u n = refl

pub turned_down : {e : Endpoint} {page : List ℕ} {c : Arguments} {n : ℕ} → outcome_of e page c ≡ refused n → (out u : List ℕ) {a : StepAnswer} → a ≡ step_answer_of e (refused n)
    → Advances e page c out u page out u a
unfolding page_after buffer_after mapped left block_of step_answer_of
turned_down {e} {page} {c} {n} h out u k =
    record {
      answer = k ∙ ap (step_answer_of e) (sym h);
      page_octets = ap (page_after page) (sym h);
      octets = ap (buffer_after out) (sym h);
      block_octets = none_handed c.call u n ∙ ap (block_buffer_after c.call u) (sym h);
      block = ap (λ (a : StepAnswer). block_part c.call (cut_block c.octets) u a.block) k ∙ no_part c.call (cut_block c.octets) u ∙ ap block_of (sym h);
    }

-- with the page, that is all that a call does
pub advances : {e : Endpoint} {page : List ℕ} {c : Arguments} {b : Block} {out u page' out' u' : List ℕ} {a : StepAnswer}
    → b ≡ cut_block c.octets → Finishes c.call e b (outcome_of e page c) out u out' u' a → page' ≡ page_after page (outcome_of e page c) → Advances e page c out u page' out' u' a
advances {c = c} {u' = u'} {a} h f g =
    record {
      answer = f.answer;
      page_octets = g;
      octets = f.octets;
      block_octets = f.block_octets;
      block = ap (λ (x : Block). block_part c.call x u' a.block) (sym h) ∙ f.block;
    }
