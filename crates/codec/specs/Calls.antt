-- The codec's calls for C: what each answers, and every octet and number that it leaves.
use Rattle.std.specs.Prelude.{ℕ, ◌-◌, ◌*◌, ◌≡◌, true, List, [], ◌∷◌, length, drop, leb}
use Rattle.octets.specs.Sizes.{longest_frame}
use Rattle.octets.specs.Test.{if_eq, Question, first, Outcome, refused, ok, outcome, mapped, number_of}
use Rattle.octets.specs.Octets.{left}
use Rattle.hexadecimal.specs.Line.{hex}
use Rattle.frame.specs.Frame.{Block, DATA, connect, listen, end_listening, close, timer, collect, send}
use Rattle.frame.specs.Layout.{is_frame, encode}
use Rattle.frame.specs.Read.{count_ok, read_frame, read_request, Input, frame, request, read_input}
use Rattle.frame.specs.Answer.{frame_with, request_number}

-- how many octets a success has; a refusal leaves the number lent
unfoldable pub count_told : Outcome (List ℕ) → ℕ → ℕ
count_told (refused n) c = c
count_told (ok s) c = length s

-- a call that writes octets into a buffer, with their count
pub record WritesOctets (o : Outcome (List ℕ)) (out out' : List ℕ) (c c' number : ℕ) : Type 0 where
  pub answer : number ≡ number_of o
  pub buffer : out' ≡ left o out
  pub count : c' ≡ count_told o c

-- a line of the octets s; 11 where the buffer has no room for it
unfoldable pub write_line : List ℕ → List ℕ → Outcome (List ℕ)
write_line s out = outcome (first ((11, leb (2 * length s) (length out)) ∷ [])) (hex s)

-- reading by a call that knows frames (1), requests (2) or both (3)
unfoldable pub read_known : ℕ → List ℕ → Outcome Input
read_known known s =
    if_eq known 1 (mapped frame (read_frame s))
    (if_eq known 2 (mapped request (read_request s))
    (if_eq known 3 (read_input s)
    (refused 3)))

-- the numbers of a frame as C has them: any octet may be its kind
pub record Numbers : Type 0 where
  pub kind : ℕ
  pub sender : ℕ
  pub quoted : ℕ
  pub number : ℕ

abbrev pub numbers_of : ℕ → ℕ → ℕ → ℕ → Numbers
numbers_of k s r n = record { kind = k; sender = s; quoted = r; number = n }

-- the numbers read; a refusal leaves those lent
unfoldable pub shown : Outcome Input → Numbers → Numbers
shown (refused n) h = h
shown (ok (frame f)) h = numbers_of f.kind f.sender f.quoted f.number
shown (ok (request q)) h = numbers_of (request_number q) 0 0 0

-- the block read: that of a DATA or a send
unfoldable pub block_read : Input → Block
block_read (frame f) = f.block
block_read (request connect) = []
block_read (request listen) = []
block_read (request end_listening) = []
block_read (request close) = []
block_read (request (send b)) = b
block_read (request timer) = []
block_read (request collect) = []

-- its length is told, and it is the end of the octets s that were read
pub record BlockTold (o : Outcome Input) (s : List ℕ) (c c' : ℕ) : Type 0 where
  pub count : c' ≡ count_told (mapped block_read o) c
  pub block : mapped (λ (i : Input). drop (length s - c') s) o ≡ mapped block_read o

-- writing it asks for the buffer, for a frame's kind, and for the count of a DATA's block
abbrev pub write_questions : Numbers → Block → List ℕ → List Question
write_questions h b out =
    (11, leb longest_frame (length out))
    ∷ (3, is_frame h.kind)
    ∷ (5, if_eq h.kind DATA (count_ok (length b)) true)
    ∷ []

-- a number or a block that the kind does not have is not written
unfoldable pub write_frame : Numbers → Block → List ℕ → Outcome (List ℕ)
write_frame h b out = outcome (first (write_questions h b out)) (encode (frame_with h.kind h.sender h.quoted h.number b))
