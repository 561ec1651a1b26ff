-- A program's place, and what each function of this crate makes of it.
use Rattle.std.specs.Prelude.{ℕ, true, false, ◌+◌, ◌-◌, ◌≤◌, ◌<◌, ◌≡◌, ◌≢◌, List, [], ◌∷◌, map, length, take, drop}
use Rattle.octets.specs.Test.{if_eq}
use Rattle.line_split.specs.Split.{ended, unfinished, longest_kept, cut}
use Rattle.line_io.specs.declared.Place.{Place}

-- the octets of a buffer for input or output
abbrev pub buffer_size : ℕ
buffer_size = 65536

-- the place is in range
pub record PlaceFits (p : Place) : Type 0 where
  pub used : p.at ≤ p.end
  pub read : p.end ≤ buffer_size
  pub kept : p.kept ≤ longest_kept
  pub filled : p.filled ≤ buffer_size

-- before the first read: nothing is at hand, held or waiting, and all the steps are left that a word can count
pub record Starts (p : Place) : Type 0 where
  pub at : p.at ≡ 0
  pub end : p.end ≡ 0
  pub kept : p.kept ≡ 0
  pub filled : p.filled ≡ 0
  pub steps : p.steps ≡ 18446744073709551615

-- what stands from the place f up to, and without, the place t
abbrev pub between : ℕ → ℕ → List ℕ → List ℕ
between f t s = take (t - f) (drop f s)

-- the line that is ready: what is held of it or, where nothing is, the input at hand between from and to
unfoldable pub ready_line : List ℕ → List ℕ → Place → List ℕ
ready_line buf line p = if_eq p.kept 0 (between p.from p.to buf) (take p.kept line)

-- the place with one step less
abbrev pub one_less : Place → Place
one_less p = record {
  at = p.at;
  end = p.end;
  kept = p.kept;
  filled = p.filled;
  has_line = p.has_line;
  from = p.from;
  to = p.to;
  steps = p.steps - 1;
}

-- the place where nothing waits and no line is ready, with n steps left
abbrev pub emptied : Place → ℕ → Place
emptied p n = record {
  at = p.at;
  end = p.end;
  kept = p.kept;
  filled = 0;
  has_line = false;
  from = p.from;
  to = p.to;
  steps = n;
}

-- the place after an answer of n characters
abbrev pub answered_with : Place → ℕ → Place
answered_with p n = record {
  at = p.at;
  end = p.end;
  kept = 0;
  filled = p.filled + n;
  has_line = false;
  from = p.from;
  to = p.to;
  steps = p.steps;
}

-- After a write: no step is left where it failed. When it does, no contract says.
pub record Flushed (p q : Place) : Type 0 where
  pub place : q ≡ emptied p q.steps
  pub steps : q.steps ≢ 0 → q.steps ≡ p.steps

-- After a read of n octets. At the end of the input there are none: one step is left, and what is held is a line if it has a character.
pub record AfterRead (n : ℕ) (p q : Place) : Type 0 where
  pub at : q.at ≡ 0
  pub end : q.end ≡ n
  pub kept : q.kept ≡ p.kept
  pub filled : q.filled ≡ p.filled
  pub begins : q.from ≡ 0
  pub stops : q.to ≡ 0
  pub more : n ≢ 0 → (q.has_line ≡ false) × (q.steps ≡ p.steps)
  pub over : n ≡ 0 → (q.has_line ≡ if_eq p.kept 0 false true) × (q.steps ≡ 1)

-- More is read where a step is left. How much, and which octets, no contract says.
pub record Filled (p : Place) (buf' : List ℕ) (q : Place) : Type 0 where
  pub stopped : p.steps ≡ 0 → q ≡ p
  pub read : p.steps ≢ 0 → AfterRead q.end p q
  pub stands : p.steps ≢ 0 → (q.end ≤ length buf') × (q.end ≤ buffer_size)

-- The next line of the input at hand, or what there is of it: what is used of the input, and what it ends and begins.
pub record Taken (buf line : List ℕ) (p : Place) (line' : List ℕ) (q : Place) : Type 0 where
  pub on : p.at < q.at
  pub used : q.at ≤ q.end
  pub end : q.end ≡ p.end
  pub filled : q.filled ≡ p.filled
  pub steps : q.steps ≡ p.steps
  pub held : q.kept ≤ longest_kept
  pub begins : q.from ≤ q.to
  pub stops : q.to ≤ q.end
  pub none : q.has_line ≡ false → (ended (take p.kept line) (between p.at q.at buf) ≡ [])
      × (take q.kept line' ≡ cut (unfinished (take p.kept line) (between p.at q.at buf)))
  pub one : q.has_line ≢ false → (map cut (ended (take p.kept line) (between p.at q.at buf)) ≡ cut (ready_line buf line' q) ∷ [])
      × (unfinished (take p.kept line) (between p.at q.at buf) ≡ [])

-- Where the input at hand is used up: a write and then a read.
pub record Refilled (line : List ℕ) (p : Place) (buf' line' : List ℕ) (q : Place) : Type 0 where
  pub written : Place
  pub flushed : Flushed p written
  pub filled : Filled written buf' q
  pub held : line' ≡ line

-- what answering needs of a place where a line is ready: the line is in range, and room characters of output are free
pub record LineReady (room : ℕ) (q : Place) : Type 0 where
  pub kept : q.kept ≤ longest_kept
  pub begins : q.from ≤ q.to
  pub stops : q.to ≤ buffer_size
  pub free : q.filled + room ≤ buffer_size

-- One step towards the next line: where the input at hand is used up, where there is no room for an answer, and else. The place stays in range, fewer steps
-- are left, and a line that is ready can be answered.
pub record Next (room : ℕ) (buf line : List ℕ) (p : Place) (buf' line' : List ℕ) (q : Place) : Type 0 where
  pub refilled : p.at ≡ p.end → Refilled line (one_less p) buf' line' q
  pub flushed : p.at ≢ p.end → buffer_size < p.filled + room → (Flushed (one_less p) q) × ((buf' ≡ buf) × (line' ≡ line))
  pub taken : p.at ≢ p.end → p.filled + room ≤ buffer_size → (Taken buf line (one_less p) line' q) × (buf' ≡ buf)
  pub fits : PlaceFits q
  pub less : q.steps < p.steps
  pub ready : room ≤ buffer_size → q.has_line ≢ false → LineReady room q
