-- What the question answers for C, in numbers.
use Rattle.std.specs.Prelude.{ℕ, ◌≡◌, None, Some}
use Rattle.octets.specs.Test.{refused, ok}
use Rattle.bench_log.specs.Log.{places}
use Rattle.bench_spec.specs.Bench.{Bench}
use Rattle.bench_query.specs.Found.{Found, first_frame}

-- The number, and the frame's number, which is below 512 where there is one.
abbrev pub number_in : Found → ℕ
number_in (ok f) = 0
number_in (refused k) = k

abbrev pub frame_in : Found → ℕ
frame_in (ok (Some n)) = n
frame_in (ok None) = places
frame_in (refused k) = places

pub record FrameNamed (w : Bench) (number frame : ℕ) : Type 0 where
  pub is_number : number ≡ number_in (first_frame w)
  pub is_frame : frame ≡ frame_in (first_frame w)
