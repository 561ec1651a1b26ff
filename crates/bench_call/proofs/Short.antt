-- What a call sends has at most 78 octets.
use Prim.Native.Nat.{ℕ, zero, suc, ◌≤◌}
use mathlib.Core.Path.{◌≡◌, refl, subst}
use mathlib.Core.Bool.{true}
use mathlib.Core.List.{List, [], ◌∷◌}
use native.Mathlib.Omega.{arith}
use lib.ListN.{length, get_or}
use Rattle.octets.specs.Sizes.{longest_frame, longest_block}
use Rattle.octets.specs.Test.{when, if_eq, in_range, Outcome, refused, ok, refusing, mapped, and_then}
use Rattle.octets.specs.Octets.{octets_of, lay}
use Rattle.octets.proofs.Test.{if-eq}
use Rattle.octets.proofs.Outcomes.{of-value, after-value}
use Rattle.frame.specs.Frame.{Block, Frame, control, data_frame, Request, connect, listen, end_listening, close, timer, collect, send}
use Rattle.frame.specs.Layout.{is_frame, layout, numbers, encode}
use Rattle.frame.proofs.Writing.{head-length, encode-control}
use Rattle.frame.specs.Read.{read_frame, read_request}
use Rattle.protocol.specs.declared.Rule.{Rule}
use Rattle.protocol.specs.declared.Rule.TheVariants.{Ignore, Refuse, AcceptDisconnect, Answer, Reset, OpenAndConfirm, CallAgain, Open, Rejected}
use Rattle.protocol.specs.declared.Rule.TheVariants.{RejectedByDisconnect, ListenAgain, ClosedByPartner, ClosedByRejection, Confirm, HandUp, Hold, Acknowledge, Release}
use Rattle.protocol.specs.declared.Rule.TheVariants.{FinishedByDisconnect, Finished}
use Rattle.protocol.specs.Endpoint.{Endpoint, sized, sound}
use Rattle.protocol.specs.Table.{Sent, frame, Step, rule, apply, step}
use Rattle.protocol.specs.Requests.{oldest, resent, refusal, hung_up, collected, accept}
use Rattle.protocol.specs.Requests as protocol
use Rattle.protocol.specs.History.{ask, deliver, Call, perform}
use Rattle.protocol.specs.Claim.{block_sent}
use Rattle.protocol.proofs.Sound.{sized-at, sound_so}
use Rattle.call_spec.specs.declared.Call as calls
use Rattle.call_spec.specs.declared.Call.TheVariants as call
use Rattle.call_spec.specs.Calls.{Arguments, reads, does, asked, wire, performed}
use Rattle.call_spec.specs.Claim.{Lent}
use Rattle.call_spec.specs.Claim as act
use Rattle.call_spec.proofs.Lift.{read_sized}
use Rattle.endpoint_plan.proofs.Ready.{all_passed}
use Rattle.endpoint.specs.Record.{record_size, decode}
use Rattle.endpoint.proofs.Sounds.{view-sound}
use Rattle.lent_record.specs.Record.{format}
use Rattle.lent_record.specs.Told.{sent_of}
use Rattle.lent_record.proofs.Told.{decode_long}
use Rattle.bench_spec.specs.Bench.{logged, call_outcome}

abbrev Short : Sent → Type 0
Short s = length (wire s) ≤ longest_frame

-- frames received are answered by short ones
step_short : (r : Rule) (e : Endpoint) (f : Frame) → Short (apply r e f).sent
unfolding apply wire encode layout numbers lay octets_of if_eq when is_frame in_range
step_short Ignore e f = omega arith
step_short Refuse e f = omega arith
step_short AcceptDisconnect e f = omega arith
step_short Answer e f = omega arith
step_short Reset e f = omega arith
step_short OpenAndConfirm e f = omega arith
step_short CallAgain e f = omega arith
step_short Open e f = omega arith
step_short Rejected e f = omega arith
step_short RejectedByDisconnect e f = omega arith
step_short ListenAgain e f = omega arith
step_short ClosedByPartner e f = omega arith
step_short ClosedByRejection e f = omega arith
step_short Confirm e f = omega arith
step_short HandUp e f = omega arith
step_short Hold e f = omega arith
step_short Acknowledge e f = omega arith
step_short Release e f = omega arith
step_short FinishedByDisconnect e f = omega arith
step_short Finished e f = omega arith

-- a DATA is as long as its block lets it be
data_short : (s r n : ℕ) (b : Block) → length b ≤ longest_block → Short (frame (data_frame s r n b))
unfolding wire encode layout numbers lay octets_of if_eq when
data_short s r n b h = omega arith

oldest_short : (e : Endpoint) (bs : List Block) → sized bs ≡ true → Short (oldest e bs)
unfolding oldest wire
oldest_short e [] h = omega arith
oldest_short e (b ∷ bs) h = data_short _ _ _ b (sized-at 0 (b ∷ bs) h (omega arith)).1

control_short : (k s r : ℕ) → 1 ≤ k → k ≤ 7 → Short (frame (control k s r))
unfolding wire
control_short k s r h l = rw (encode-control k s r h l) (omega (arith, head-length k s r))

timer_short : (e : Endpoint) → sized e.queue ≡ true → Short (resent e)
unfolding resent wire
timer_short e h =
    if-eq Short e.state 2 (λ _. control_short 1 e.local e.remote (omega arith) (omega arith)) (λ _.
    if-eq Short e.state 3 (λ _. control_short 2 e.local e.remote (omega arith) (omega arith)) (λ _.
    if-eq Short e.state 4 (λ _. oldest_short e e.queue h) (λ _.
    if-eq Short e.state 5 (λ _. control_short 6 e.local e.remote (omega arith) (omega arith)) (λ _. omega arith))))

close_short : (e : Endpoint) → Short (hung_up e).sent
unfolding hung_up wire
close_short e = if-eq (λ (x : Step). Short x.sent) e.remote 0 (λ _. omega arith) (λ _. control_short 6 e.local e.remote (omega arith) (omega arith))

collect_short : (e : Endpoint) (b : Block) → Short (collected e b).sent
unfolding collected wire encode layout numbers lay octets_of if_eq when is_frame in_range
collect_short e [] = omega arith
collect_short e (x ∷ b) = omega arith

accept_short : (q : Request) (e : Endpoint) → sized e.queue ≡ true → sized (block_sent (ask q)) ≡ true → Short (accept q e).sent
unfolding accept wire encode layout numbers lay octets_of if_eq when is_frame in_range
accept_short connect e h k = omega arith
accept_short listen e h k = omega arith
accept_short end_listening e h k = omega arith
accept_short close e h k = close_short e
accept_short (send b) e h k = data_short e.local e.remote e.accepted b (sized-at 0 (b ∷ []) k (omega arith)).1
accept_short timer e h k = timer_short e h
accept_short collect e h k = collect_short e (get_or e.held 0 [])

-- so is what an outcome sends
abbrev Sends : Outcome Step → Type 0
Sends o = sent_of o ≤ longest_frame

none-sent : (n : ℕ) → Sends (refused n)
unfolding sent_of
none-sent n = omega arith

request_short : (e : Endpoint) (r : Outcome Request) → sized e.queue ≡ true → ((q : Request) → r ≡ ok q → sized (block_sent (ask q)) ≡ true)
    → Sends (and_then (mapped ask r) (λ (x : Call). perform x e))
unfolding and_then mapped perform protocol.request sent_of
request_short e (refused n) h k = omega arith
request_short e (ok q) h k = of-value Sends none-sent (refusal q e) (accept q e) (accept_short q e h (k q refl))

receive_short : (e : Endpoint) (r : Outcome Frame) → Sends (and_then (mapped deliver r) (λ (x : Call). perform x e))
unfolding and_then mapped perform step sent_of
receive_short e (refused n) = omega arith
receive_short e (ok f) = step_short (rule e f) e f

does_short : (c : calls.Call) (s : List ℕ) (e : Endpoint) → sound e ≡ true → Sends (does c s e)
unfolding does reads
does_short call.Request s e h = request_short e (read_request s) (sound_so e h).blocks (read_sized s)
does_short call.Receive s e h = receive_short e (read_frame s)

-- of what is sent where no question refuses
passed_short : (n : ℕ) (o : Outcome Step) → (n ≡ 0 → Sends o) → Sends (refusing n o)
unfolding refusing
passed_short zero o h = h refl
passed_short (suc n) o h = none-sent (suc n)

logged_short : (count : ℕ) (o : Outcome Step) → Sends o → Sends (and_then o (logged count))
unfolding logged
logged_short count o h = after-value Sends none-sent o (logged count) (λ x e. of-value Sends none-sent _ x (subst Sends e h))

pub sent_short : (l : Lent) (count : ℕ) (c : Arguments) → record_size ≤ length l.rec → sent_of (call_outcome l count (act.call c)) ≤ longest_frame
unfolding call_outcome performed asked
sent_short l count c h =
    logged_short count (performed format l.rec l.page c)
    (passed_short _ _
    (λ _. passed_short _ _
    (λ z.
    let p = all_passed (format.sound l.rec) (format.holds l.rec).local l.page c z in
    does_short c.call c.octets (format.holds l.rec) (view-sound (decode l.rec) p.is_fine (decode_long l.rec h)))))
