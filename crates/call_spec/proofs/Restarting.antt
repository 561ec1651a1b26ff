-- The questions of a restart, 11 and 15, and what follows them.
use Prim.Native.Nat.{ℕ, ◌≤◌, ◌<◌}
use mathlib.Core.Path.{◌≡◌, refl}
use mathlib.Core.Bool.{true, false}
use mathlib.Core.List.{List}
use borrow.Author.Tests.{le-leb, lt-leb}
use lib.ListN.{length}
use Rattle.octets.specs.Sizes.{page_size}
use Rattle.octets.specs.Test.{when, first, refused, ok, refusing}
use Rattle.page.specs.Page.{runs, count}
use Rattle.protocol.specs.Restart.{restarted}
use Rattle.protocol.specs.Table.{none, quiet}
use Rattle.call_spec.specs.Calls.{restarting}

module _ (page : List ℕ) where
  pub restarts-short : length page < page_size → restarting page ≡ refused 11
  unfolding restarting refusing first when
  restarts-short k = rw (lt-leb page_size (length page) k) refl

  module _ (l : page_size ≤ length page) where
    pub restarts-wrong : runs page ≡ false → restarting page ≡ refused 15
    unfolding restarting refusing first when
    restarts-wrong k = rw (le-leb page_size (length page) l, k) refl

    pub restarts : runs page ≡ true → restarting page ≡ ok (quiet (restarted (count page)) none)
    unfolding restarting refusing first when
    restarts k = rw (le-leb page_size (length page) l, k) refl
