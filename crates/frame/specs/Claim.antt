-- What is claimed of frames: both round trips, and the length of the longest.
use Rattle.std.specs.Prelude.{ℕ, ◌≤◌, ◌≡◌, List, length}
use Rattle.octets.specs.Sizes.{longest_frame}
use Rattle.octets.specs.Test.{ok}
use Rattle.octets.specs.Octets.{Octets}
use Rattle.frame.specs.Frame.{Frame}
use Rattle.frame.specs.Fits.{Fits}
use Rattle.frame.specs.Layout.{encode}
use Rattle.frame.specs.Read.{read_frame}

-- each written frame reads as what it was
abbrev pub WrittenReads : Type 0
WrittenReads = (f : Frame) → Fits f → read_frame (encode f) ≡ ok f

-- each readable frame, written again, has the same octets
abbrev pub ReadWrites : Type 0
ReadWrites = (s : List ℕ) (f : Frame) → Octets s → read_frame s ≡ ok f → encode f ≡ s

-- a frame has at most 78 octets
abbrev pub EncodeShort : Type 0
EncodeShort = (f : Frame) → Fits f → length (encode f) ≤ longest_frame
