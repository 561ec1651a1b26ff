-- Questions of one number, one after the other, are one question.
use Prim.Native.Nat.{ℕ}
use mathlib.Core.Path.{◌≡◌, refl, ◌∙◌}
use mathlib.Core.Bool.{Bool, true, false}
use mathlib.Core.List.{List, [], ◌∷◌}
use borrow.Author.Tests.{leb-true}
use lib.ListN.{length}
use Rattle.octets.specs.Sizes.{page_size}
use Rattle.octets.specs.Test.{when, Question, first}
use Rattle.octets.proofs.Test.{both}
use Rattle.call_spec.specs.Calls.{Rooms}
use Rattle.protocol.specs.Endpoint.{all_of}
use Rattle.endpoint.specs.Record.{record_size}
use Rattle.bench_spec.specs.Bench.{Bench}
use Rattle.bench_checks.specs.Ready.{ready_questions}
use Rattle.bench_checks.specs.Internal.{Long, room_tests, sound_tests, page_tests}

abbrev asks : ℕ → List Bool → List Question → List Question
asks n [] rest = rest
asks n (b ∷ bs) rest = (n, b) ∷ asks n bs rest

all-at_once : (n : ℕ) (bs : List Bool) (rest : List Question) → first (asks n bs rest) ≡ when (all_of bs) (first rest) n
unfolding all_of first when
all-at_once n [] rest = refl
all-at_once n (true ∷ bs) rest = all-at_once n bs rest
all-at_once n (false ∷ bs) rest = refl

module _ (k : ℕ) (w : Bench) (room : Rooms) where
  abbrev roomy : Bool
  roomy = all_of (room_tests w room)

  abbrev sounds : Bool
  sounds = all_of (sound_tests k w)

  abbrev pages : Bool
  pages = all_of (page_tests k w)

  pub no_room : roomy ≡ false → first (ready_questions k w room) ≡ 11
  unfolding when
  no_room h = all-at_once 11 (room_tests w room) _ ∙ rw h refl

  module _ (r : roomy ≡ true) where
    next : first (ready_questions k w room) ≡ when sounds (when pages 0 15) 12
    unfolding when first
    next =
        all-at_once 11 (room_tests w room) (asks 12 (sound_tests k w) (asks 15 (page_tests k w) []))
        ∙ rw r (all-at_once 12 (sound_tests k w) (asks 15 (page_tests k w) []) ∙ rw (all-at_once 15 (page_tests k w) []) refl)

    pub unsound : sounds ≡ false → first (ready_questions k w room) ≡ 12
    unfolding when
    unsound h = next ∙ rw h refl

    pub wrong-page : sounds ≡ true → pages ≡ false → first (ready_questions k w room) ≡ 15
    unfolding when
    wrong-page h g = next ∙ rw (h, g) refl

    pub all_passed : sounds ≡ true → pages ≡ true → first (ready_questions k w room) ≡ 0
    unfolding when
    all_passed h g = next ∙ rw (h, g) refl

-- where there is room, the records and the pages are long enough
pub long : (w : Bench) (room : Rooms) → all_of (room_tests w room) ≡ true → Long w.a × Long w.b
unfolding all_of
long w room h =
    let x = both _ _ h in
    let y = both _ _ x.1 in
    let p = both _ _ y.1 in
    let q = both _ _ p.1 in (
      (leb-true record_size (length w.a.rec) x.0, leb-true page_size (length w.a.page) p.0),
      (leb-true record_size (length w.b.rec) y.0, leb-true page_size (length w.b.page) q.0),
    )
