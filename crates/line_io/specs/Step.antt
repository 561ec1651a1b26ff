-- One step of a program: the contract of step, which both programs run, over what answers their lines and the room that an answer needs.
-- Before the step: the state s, the input in buf, what is held in line, what waits in out, and the place p. After it: s', buf', line', out' and q.
use Rattle.std.specs.Prelude.{ℕ, ◌+◌, ◌-◌, ◌≤◌, ◌<◌, ◌≡◌, ◌≢◌, List, ◌++◌, length, take}
use Rattle.line_split.specs.Split.{ended, unfinished, last, cut}
use Rattle.line_io.specs.declared.Place.{Place}
use Rattle.line_io.specs.Answering.{Answering, state_after, answers}
use Rattle.line_io.specs.Place.{buffer_size, PlaceFits, between}

-- Input and room for an answer are left: some of the input is used. What it ends of lines is answered, in order, after what waits already; what it begins
-- is held.
pub record Went (a : Answering) (s : a.State) (buf line out : List ℕ) (p : Place) (s' : a.State) (buf' line' out' : List ℕ) (q : Place) : Type 0 where
  pub input : buf' ≡ buf
  pub on : p.at < q.at
  pub end : q.end ≡ p.end
  pub steps : q.steps ≡ p.steps - 1
  pub state : s' ≡ state_after a s (ended (take p.kept line) (between p.at q.at buf))
  pub part : take q.kept line' ≡ cut (unfinished (take p.kept line) (between p.at q.at buf))
  pub told : take q.filled out' ≡ take p.filled out ++ answers a s (ended (take p.kept line) (between p.at q.at buf))

-- Nothing is answered, what is held stays, and nothing waits any more.
pub record Rests (a : Answering) (s : a.State) (line : List ℕ) (p : Place) (s' : a.State) (line' : List ℕ) (q : Place) : Type 0 where
  pub state : s' ≡ s
  pub part : take q.kept line' ≡ take p.kept line
  pub filled : q.filled ≡ 0

-- Input is left, and no room for an answer: what waits is written, and nothing else changes. No step is left where the write failed.
pub record Wrote (a : Answering) (s : a.State) (buf line : List ℕ) (p : Place) (s' : a.State) (buf' line' : List ℕ) (q : Place) : Type 0 where
  pub rests : Rests a s line p s' line' q
  pub input : buf' ≡ buf
  pub at : q.at ≡ p.at
  pub end : q.end ≡ p.end
  pub steps : q.steps ≢ 0 → q.steps ≡ p.steps - 1

-- The input at hand is used up: what waits is written, and more is read to the start of the buffer.
pub record ReadOn (a : Answering) (s : a.State) (line : List ℕ) (p : Place) (s' : a.State) (buf' line' : List ℕ) (q : Place) : Type 0 where
  pub rests : Rests a s line p s' line' q
  pub at : q.at ≡ 0
  pub end : q.end ≤ length buf'
  pub steps : q.steps ≡ p.steps - 1

-- The input at hand is used up, and there is no more: what waits is written, and what is held, if it has a character, is answered as the last line. One
-- step is left, which writes that answer.
pub record Finished (a : Answering) (s : a.State) (line : List ℕ) (p : Place) (s' : a.State) (out' : List ℕ) (q : Place) : Type 0 where
  pub at : q.at ≡ 0
  pub held : q.kept ≡ 0
  pub steps : q.steps ≡ 1
  pub state : s' ≡ state_after a s (last (take p.kept line))
  pub told : take q.filled out' ≡ answers a s (last (take p.kept line))

-- The input at hand is used up, and nothing is read since no step is left or the write failed.
pub record Stopped (a : Answering) (s : a.State) (line : List ℕ) (p : Place) (s' : a.State) (line' : List ℕ) (q : Place) : Type 0 where
  pub rests : Rests a s line p s' line' q
  pub at : q.at ≡ p.at
  pub end : q.end ≡ p.end

-- One step, by its cases. The place stays in range, and fewer steps are left, so that every run ends.
pub record Stepped (a : Answering) (room : ℕ) (s : a.State) (buf line out : List ℕ) (p : Place) (s' : a.State) (buf' line' out' : List ℕ) (q : Place) : Type 0 where
  pub went : p.at ≢ p.end → p.filled + room ≤ buffer_size → Went a s buf line out p s' buf' line' out' q
  pub wrote : p.at ≢ p.end → buffer_size < p.filled + room → Wrote a s buf line p s' buf' line' q
  pub read_on : p.at ≡ p.end → q.steps ≢ 0 → q.end ≢ 0 → ReadOn a s line p s' buf' line' q
  pub finished : p.at ≡ p.end → q.steps ≢ 0 → q.end ≡ 0 → Finished a s line p s' out' q
  pub stopped : p.at ≡ p.end → q.steps ≡ 0 → Stopped a s line p s' line' q
  pub fits : PlaceFits q
  pub less : q.steps < p.steps
