-- A message, and the octets that it was read from.
use Prim.Native.Nat.{ℕ, zero, suc, ◌≤◌, ◌<◌}
use mathlib.Core.Path.{◌≡◌, refl, sym, ap, ◌∙◌}
use mathlib.Core.List.{List, []}
use Rattle.std.specs.Prelude.{Result, Ok, Err}
use native.Mathlib.Omega.{arith}
use lib.ListN.{length}
use Rattle.octets.specs.Sizes.{longest_block, last_number}
use Rattle.octets.specs.Test.{first, Outcome, refused, ok, outcome, mapped, and_then, number_of}
use Rattle.octets.specs.declared.refusal.Refusal.{Refusal}
use Rattle.octets.specs.Refusal.{told}
use Rattle.octets.proofs.Test.{eq_yes}
use Rattle.frame.specs.Frame.{Frame, Request, DATA}
use Rattle.frame.specs.Layout.{is_frame, is_request}
use Rattle.frame.specs.Read.{kind_of, after_head, cut_block, frame_at, request_at, read_questions, read_frame, read_request, frame, request}
use Rattle.frame.specs.Answer.{kind_number, request_of, frame_of, meant}
use Rattle.frame.specs.declared.Kind.TheVariants.{Data}
use Rattle.frame.specs.declared.Header.{Header}
use Rattle.frame.specs.declared.Message.{Message}
use Rattle.frame.specs.declared.Message.TheVariants as message
use Rattle.frame.proofs.Blocks.{request_short, frame-short, data-sized}
use Rattle.frame.proofs.Fits.{data-limit}
use Rattle.protocol.specs.Endpoint.{Endpoint}
use Rattle.protocol.specs.Table.{Step}
use Rattle.protocol.specs.History.{ask, deliver}
use Rattle.call_spec.specs.declared.Call.{Call}
use Rattle.call_spec.specs.declared.Call.TheVariants as call
use Rattle.call_spec.specs.Calls.{reads, does}
use Rattle.call_spec.proofs.Lift.{read_sized, of_mapped}
use Rattle.endpoint_plan.specs.Internal.{input_of, follows, Carries}

-- what was read is what the call reads
request_read : (c : Call) (s : List ℕ) (q : Request) → ok (request q) ≡ input_of c s → (c ≡ call.Request) × (read_request s ≡ ok q)
unfolding input_of
request_read call.Request s q h = let r = of_mapped request (read_request s) (request q) (sym h) in (refl, r.1 ∙ ap ok (let z : q ≡ r.0 = cc r.2 in sym z))
request_read call.Receive s q h = let r = of_mapped frame (read_frame s) (request q) (sym h) in absurd (let z : ◌≡◌ {A = ℕ} 0 1 = cc r.2 in omega arith)

frame_read : (c : Call) (s : List ℕ) (f : Frame) → ok (frame f) ≡ input_of c s → (c ≡ call.Receive) × (read_frame s ≡ ok f)
unfolding input_of
frame_read call.Request s f h = let r = of_mapped request (read_request s) (frame f) (sym h) in absurd (let z : ◌≡◌ {A = ℕ} 0 1 = cc r.2 in omega arith)
frame_read call.Receive s f h = let r = of_mapped frame (read_frame s) (frame f) (sym h) in (refl, r.1 ∙ ap ok (let z : f ≡ r.0 = cc r.2 in sym z))

unmapped : {A B : Type 0} (f : A → B) (o : Outcome A) (n : ℕ) → refused n ≡ mapped f o → o ≡ refused n
unfolding mapped
unmapped f (refused m) n h = cc
unmapped f (ok x) n h = absurd (let z : ◌≡◌ {A = ℕ} 0 1 = cc in omega arith)

refused_read : (c : Call) (s : List ℕ) (n : ℕ) → refused n ≡ input_of c s → reads c s ≡ refused n
unfolding input_of reads mapped
refused_read call.Request s n h = rw (unmapped request (read_request s) n h) refl
refused_read call.Receive s n h = rw (unmapped frame (read_frame s) n h) refl

-- octets that cannot be read come to the refusal
pub unread : (c : Call) (s : List ℕ) (e : Endpoint) {n : ℕ} → refused n ≡ input_of c s → does c s e ≡ refused n
unfolding does and_then
unread c s e {n} h = rw (refused_read c s n h) refl

-- m is what these octets say, or the refusal that they come to
abbrev pub Says : Result Message Refusal → Call → List ℕ → Type 0
Says m c s = mapped (λ (x : Message). meant x (cut_block s)) (told m) ≡ input_of c s

-- the octets come to what the message does
pub reads_as : (m : Result Message Refusal) (c : Call) (s : List ℕ) (e : Endpoint) → Says m c s → does c s e ≡ follows m (cut_block s) e
unfolding meant follows does reads and_then mapped
reads_as (Ok (message.Request q)) c s e h = let r = request_read c s (request_of q (cut_block s)) h in rw (r.0, r.1) refl
reads_as (Ok (message.Frame f)) c s e h = let r = frame_read c s (frame_of f (cut_block s)) h in rw (r.0, r.1) refl
reads_as (Err k) c s e h = unread c s e h

-- its block is as its kind asks for, and no number of a DATA is the last
pub carries_it : (m : Result Message Refusal) (c : Call) (s : List ℕ) → Says m c s → Carries m (cut_block s)
unfolding meant mapped
carries_it (Ok (message.Request q)) c s h = read_sized s (request_of q (cut_block s)) (request_read c s (request_of q (cut_block s)) h).1
carries_it (Ok (message.Frame f)) c s h = λ k.
    let d = ap kind_number k in
    rw (eq_yes (kind_number f.kind) DATA (cut_block s) [] d) at (data-sized s (frame_read c s (frame_of f (cut_block s)) h).1 d)
carries_it (Err k) c s h = tt

pub number_fits : (c : Call) (s : List ℕ) (f : Header) → ok (frame (frame_of f (cut_block s))) ≡ input_of c s → f.kind ≡ Data → f.number < last_number
number_fits c s f h k = data-limit s (frame_read c s (frame_of f (cut_block s)) h).1 (ap kind_number k)

-- an accepted call has read its octets, and its block has at most 64
lands : {A B : Type 0} (f : A → B) (n : ℕ) (x : A) (g : B → Outcome Step) → number_of (and_then (mapped f (outcome n x)) g) ≡ 0 → outcome n x ≡ ok x
unfolding outcome mapped and_then number_of
lands f zero x g h = refl
lands f (suc n) x g h = absurd (omega arith)

pub accepted_frame : (s : List ℕ) (e : Endpoint) → number_of (does call.Receive s e) ≡ 0 → read_frame s ≡ ok (frame_at (kind_of s) (after_head s))
unfolding does reads read_frame
accepted_frame s e h = lands deliver (first (read_questions is_frame (kind_of s) (after_head s))) (frame_at (kind_of s) (after_head s)) _ h

pub accepted_short : (c : Call) (s : List ℕ) (e : Endpoint) → number_of (does c s e) ≡ 0 → length (cut_block s) ≤ longest_block
unfolding does reads read_request
accepted_short call.Request s e h = request_short s (lands ask (first (read_questions is_request (kind_of s) (after_head s))) (request_at (kind_of s) (after_head s)) _ h)
accepted_short call.Receive s e h = frame-short s (accepted_frame s e h)
