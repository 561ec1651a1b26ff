-- The log of sent frames, document 01's book: 512 places of 80 octets, each with sender (0 A, 1 B), length, frame, zeros.
use Rattle.std.specs.Prelude.{ℕ, ◌+◌, ◌*◌, Bool, ◌&&◌, List, ◌∷◌, ltb, leb, length, take, drop, get_or}
use Rattle.octets.specs.Octets.{padded}
use Rattle.octets.specs.Sizes.{longest_frame}
use Rattle.octets.specs.Test.{in_range}

-- the sender and the length come before the frame
abbrev pub place_head : ℕ
place_head = 2

abbrev pub place_size : ℕ
place_size = place_head + longest_frame

abbrev pub places : ℕ
places = 512

abbrev pub log_size : ℕ
log_size = places * place_size

-- the sender and the frame in place n
unfoldable pub sender_at : ℕ → List ℕ → ℕ
sender_at n log = get_or log (n * place_size) 0

unfoldable pub length_at : ℕ → List ℕ → ℕ
length_at n log = get_or log (n * place_size + 1) 0

unfoldable pub frame_logged : ℕ → List ℕ → List ℕ
frame_logged n log = take (length_at n log) (drop (n * place_size + place_head) log)

-- Question 13: does the log hold that frame, with a sender octet 0 or 1 and a length of 9 to 78?
unfoldable pub holds : ℕ → ℕ → List ℕ → Bool
holds count n log = ltb n count && (leb (sender_at n log) 1 && in_range 9 longest_frame (length_at n log))

-- a place with a frame in it
unfoldable pub place : ℕ → List ℕ → List ℕ
place sender s = sender ∷ length s ∷ padded longest_frame s
