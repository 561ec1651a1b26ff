-- What stores after the page cannot come before its store: a fresh end's connect on a new page is the example.
use Prim.Native.Nat.{◌≤◌}
use mathlib.Core.Path.{◌≡◌, refl, sym, ap, ◌∙◌}
use mathlib.Core.Bool.{true}
use mathlib.Core.List.{[], ◌∷◌, append-nil}
use native.Mathlib.Omega.{arith}
use Rattle.std.specs.Prelude.{Ok, Err}
use lib.ListN.{length}
use Rattle.octets.specs.Sizes.{longest_frame, longest_block, page_size}
use Rattle.octets.specs.Test.{when, if_eq, in_range, all_below, zeros, first, Outcome, ok, outcome, mapped, and_then, number_of}
use Rattle.octets.specs.Octets.{size}
use Rattle.octets.proofs.Outcomes.{refusal_some}
use Rattle.frame.specs.Frame.{CONNECT, connect}
use Rattle.frame.specs.Layout.{is_frame, is_request, has_block, layout, numbers_size}
use Rattle.frame.specs.Read.{kind_of, after_head, request_at, fixed_ok, read_request}
use Rattle.page.specs.Page.{count, goes_with, new_page}
use Rattle.page.proofs.Laws.{page_goes, page-count, page_long}
use Rattle.protocol.specs.Endpoint as abstract
use Rattle.protocol.specs.Endpoint.{fresh}
use Rattle.protocol.specs.Table.{Step}
use Rattle.protocol.specs.Requests as requests
use Rattle.protocol.specs.History.{ask, perform}
use Rattle.call_spec.specs.declared.Call.TheVariants.{Request}
use Rattle.call_spec.specs.Calls.{Arguments, rooms, given, reads, does}
use Rattle.call_spec.specs.Answers.{endpoint_after}
use Rattle.call_spec.proofs.Sequence.{has_room}
use Rattle.endpoint.specs.View.{pack, view}
use Rattle.endpoint.proofs.Held.{held, pack-sound}
use Rattle.endpoint_plan.specs.Calls.{outcome_of}
use Rattle.endpoint_plan.specs.Internal.{NotBeforeTheStore}
use Rattle.endpoint_plan.proofs.Ready.{ready}

abbrev connects : Arguments
connects = given Request (CONNECT ∷ []) (rooms longest_frame longest_block)

none-used : count new_page ≡ 0
none-used = rw (append-nil new_page) at (page-count 0 (omega arith) [])

long : page_size ≤ length new_page
long = omega (arith, page_long 0 (omega arith))

goes : goes_with 0 new_page ≡ true
goes = rw (append-nil new_page) at (page_goes 0 (omega arith) [])

is_sound : abstract.sound fresh ≡ true
unfolding abstract.sound abstract.all_of abstract.numbers_sound in_range when abstract.sized abstract.held_sound abstract.lengths_of all_below zeros
is_sound = refl

says : reads Request (CONNECT ∷ []) ≡ ok (ask connect)
unfolding reads mapped read_request fixed_ok kind_of after_head request_at is_frame is_request has_block numbers_size layout size in_range first outcome if_eq when
says = refl

calls : does Request (CONNECT ∷ []) fresh ≡ perform (ask connect) fresh
unfolding does and_then
calls = rw says refl

comes : outcome_of (pack fresh) new_page connects ≡ perform (ask connect) fresh
unfolding pack
comes =
    ready (pack fresh) new_page connects (omega arith) (has_room Request longest_block (omega arith)) long (pack-sound fresh is_sound) goes
    ∙ ap (does Request (CONNECT ∷ [])) (held fresh is_sound)
    ∙ calls

accepted : number_of (perform (ask connect) fresh) ≡ 0
unfolding number_of perform requests.request outcome requests.refusal first requests.request_questions when
accepted = refl

first-number : (endpoint_after fresh (perform (ask connect) fresh)).local ≡ 1
unfolding endpoint_after perform requests.request outcome requests.refusal first requests.request_questions when requests.accept
first-number = refl

pub not_before : NotBeforeTheStore
unfolding view number_of
not_before (Ok p) w h =
    let l : p.numbers.local ≡ 1 =
    ap (λ (a : abstract.Endpoint). a.local) w.comes.endpoint
    ∙ ap (λ (o : Outcome Step). (endpoint_after (view (pack fresh)) o).local) comes
    ∙ ap (λ (a : abstract.Endpoint). (endpoint_after a (perform (ask connect) fresh)).local) (held fresh is_sound)
    ∙ first-number in
    omega (arith, l, none-used)
not_before (Err q) w h = refusal_some q (ap number_of (sym w ∙ comes) ∙ accepted)
