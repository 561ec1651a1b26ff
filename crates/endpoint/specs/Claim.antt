-- What is claimed of a record in octets: both round trips.
use Rattle.std.specs.Prelude.{ℕ, ◌≤◌, ◌≡◌, List, ◌++◌, length, take}
use Rattle.octets.specs.Octets.{Octets}
use Rattle.endpoint.specs.declared.Endpoint.{Endpoint}
use Rattle.endpoint.specs.Record.{record_size, encode, decode, RecordFits}

-- a written record reads as what it was, in a buffer that may be longer
abbrev pub WrittenReads : Type 0
WrittenReads = (e : Endpoint) (d : List ℕ) → RecordFits e → decode (encode e ++ d) ≡ e

-- a record that is read, written again, has the same octets
abbrev pub ReadWrites : Type 0
ReadWrites = (s : List ℕ) → Octets s → record_size ≤ length s → encode (decode s) ≡ take record_size s
