-- One step of a program, from the contracts of what it calls.
use Prim.Native.Nat.{ℕ, zero, suc, ◌+◌, ◌-◌, ◌≤◌, ◌<◌}
use mathlib.Core.Path.{◌≡◌, refl, sym, ap, subst, ◌∙◌}
use mathlib.Core.Logic.{◌≢◌}
use mathlib.Core.Bool.{Bool, true, false}
use mathlib.Core.List.{List, [], ◌∷◌, ◌++◌, append_assoc, append-nil}
use native.Mathlib.Omega.{arith}
use lib.Dec.{ltb}
use Rattle.std.proofs.Common.{lt-ltb}
use lib.ListN.{length, take, drop, length-take, length-drop, length-append}
use lib.Seq.{length-take-le, take_at}
use Rattle.std.proofs.lemmas.Bool.{false≢true}
use Rattle.octets.specs.Octets.{put}
use Rattle.octets.specs.Test.{when, if_eq}
use Rattle.octets.proofs.Test.{by_eq, eq_yes, eq_no, if-lt}
use Rattle.octets.proofs.Buffers.{put_fits}
use Rattle.line_split.specs.Split.{ended, last, longest_kept, cut}
use Rattle.line_io.specs.declared.Place.{Place}
use Rattle.line_io.specs.Answering.{Answering, Answered, Cuts, state_after, answers}
use Rattle.line_io.specs.Place.{buffer_size, PlaceFits, between, ready_line, one_less, emptied, answered_with, Flushed, AfterRead, Taken, Refilled, Next}
use Rattle.line_io.specs.Step.{Went, Rests, Wrote, ReadOn, Finished, Stopped, Stepped}
use Rattle.line_io.proofs.Answers.{answers-cut, after-cut}

-- something is held
pub some_held : (k : ℕ) → ltb 0 k ≡ if_eq k 0 false true
unfolding if_eq when
some_held zero = refl
some_held (suc k) = lt-ltb 0 (suc k) (omega arith) ∙ sym (eq_no (suc k) 0 false true (λ z. omega arith))

-- a write
pub flushed : {p q : Place} (all : Bool) → q ≡ emptied p (when all p.steps 0) → Flushed p q
unfolding when
flushed {p} true e = record { place = e ∙ ap (emptied p) (sym (ap (λ (x : Place). x.steps) e)); steps = λ _. ap (λ (x : Place). x.steps) e }
flushed {p} false e = record { place = e ∙ ap (emptied p) (sym (ap (λ (x : Place). x.steps) e)); steps = λ n. absurd (n (ap (λ (x : Place). x.steps) e)) }

-- a read counts what it brings
pub counted : {n : ℕ} {p q : Place} → AfterRead n p q → AfterRead q.end p q
counted {p = p} {q = q} r = subst (λ (m : ℕ). AfterRead m p q) (sym r.end) r

-- Where the input at hand is used up, a step stops, reads more or meets the end of the input.
record Halted (p q : Place) : Type 0 where
  pub at : q.at ≡ p.at
  pub end : q.end ≡ p.end
  pub kept : q.kept ≡ p.kept
  pub filled : q.filled ≡ 0
  pub has_line : q.has_line ≡ false
  pub steps : q.steps ≡ 0

record More (p : Place) (buf' : List ℕ) (q : Place) : Type 0 where
  pub at : q.at ≡ 0
  pub some : q.end ≢ 0
  pub stands : q.end ≤ length buf'
  pub read : q.end ≤ buffer_size
  pub kept : q.kept ≡ p.kept
  pub filled : q.filled ≡ 0
  pub has_line : q.has_line ≡ false
  pub steps : q.steps ≡ p.steps - 1
  pub left : q.steps ≢ 0

record Ended (p q : Place) : Type 0 where
  pub at : q.at ≡ 0
  pub end : q.end ≡ 0
  pub kept : q.kept ≡ p.kept
  pub filled : q.filled ≡ 0
  pub begins : q.from ≡ 0
  pub stops : q.to ≡ 0
  pub has_line : q.has_line ≡ if_eq p.kept 0 false true
  pub steps : q.steps ≡ 1
  pub left : 1 < p.steps

data Refill (p : Place) (buf' : List ℕ) (q : Place) : Type 0 where
  halts : Halted p q → Refill p buf' q
  reads : More p buf' q → Refill p buf' q
  ends : Ended p q → Refill p buf' q

refill : {line buf' line' : List ℕ} {p q : Place} → Refilled line (one_less p) buf' line' q → Refill p buf' q
refill {p = p} {q = q} r =
    let m = r.written in
    let e = r.flushed.place in
    let k = ap (λ (x : Place). x.kept) e in
    let f = ap (λ (x : Place). x.filled) e in
    by_eq m.steps 0
    (λ z. let d = r.filled.stopped z ∙ e in
    halts (record {
      at = ap (λ (x : Place). x.at) d;
      end = ap (λ (x : Place). x.end) d;
      kept = ap (λ (x : Place). x.kept) d;
      filled = ap (λ (x : Place). x.filled) d;
      has_line = ap (λ (x : Place). x.has_line) d;
      steps = ap (λ (x : Place). x.steps) d ∙ z;
    }))
    (λ n. let w = r.filled.read n in
    let b = r.filled.stands n in
    let l = r.flushed.steps n in
    by_eq q.end 0
    (λ z. ends (record {
      at = w.at;
      end = z;
      kept = w.kept ∙ k;
      filled = w.filled ∙ f;
      begins = w.begins;
      stops = w.stops;
      has_line = (w.over z).0 ∙ ap (λ (x : ℕ). if_eq x 0 false true) k;
      steps = (w.over z).1;
      left = omega (arith, l, n);
    }))
    (λ z. reads (record {
      at = w.at;
      some = z;
      stands = b.0;
      read = b.1;
      kept = w.kept ∙ k;
      filled = w.filled ∙ f;
      has_line = (w.more z).0;
      steps = (w.more z).1 ∙ l;
      left = λ y. n (sym (w.more z).1 ∙ y);
    })))

pub by_lt : {A : Type 0} (a b : ℕ) → (a < b → A) → (b ≤ a → A) → A
by_lt {A} a b h g = if-lt (λ (b : Bool). A) a b {x = true} {y = false} h g

-- a place in range, of which nothing waits and as much is held as before
fits_by : {p q : Place} → PlaceFits p → q.at ≤ q.end → q.end ≤ buffer_size → q.kept ≡ p.kept → q.filled ≡ 0 → PlaceFits q
fits_by f u r k z = record { used = u; read = r; kept = omega (arith, k, f.kept); filled = omega (arith, z) }

-- a step stays in range, and leaves fewer steps
refill_fits : {p q : Place} {buf' : List ℕ} → PlaceFits p → 0 < p.steps → Refill p buf' q → (PlaceFits q) × (q.steps < p.steps)
refill_fits f l (halts h) = (fits_by f (omega (arith, h.at, h.end, f.used)) (omega (arith, h.end, f.read)) h.kept h.filled, omega (arith, h.steps))
refill_fits f l (reads m) = (fits_by f (omega (arith, m.at)) m.read m.kept m.filled, omega (arith, m.steps))
refill_fits f l (ends d) = (fits_by f (omega (arith, d.at)) (omega (arith, d.end)) d.kept d.filled, omega (arith, d.steps, d.left))

-- the line that is ready where the input at hand is used up is the last
ready_last : {p q : Place} {buf' : List ℕ} → q.has_line ≢ false → Refill p buf' q → Ended p q
ready_last n (halts h) = absurd (n h.has_line)
ready_last n (reads m) = absurd (n m.has_line)
ready_last n (ends d) = d

-- one step towards the next line, in each of its cases
module _ {room : ℕ} {buf line : List ℕ} {p q : Place} (f : PlaceFits p) (l : 0 < p.steps) where
  pub next-refilled : {buf' line' : List ℕ} → p.at ≡ p.end → Refilled line (one_less p) buf' line' q → Next room buf line p buf' line' q
  next-refilled h r =
      let g = refill_fits f l (refill r) in
      record {
        refilled = λ _. r;
        flushed = λ n. absurd (n h);
        taken = λ n. absurd (n h);
        fits = g.0;
        less = g.1;
        ready = λ b n. let d = ready_last n (refill r) in
            record { kept = g.0.kept; begins = omega (arith, d.begins); stops = omega (arith, d.stops); free = omega (arith, d.filled) };
      }

  pub next-flushed : p.at ≢ p.end → buffer_size < p.filled + room → Flushed (one_less p) q → Next room buf line p buf line q
  next-flushed h k w =
      let e = w.place in
      let at = ap (λ (x : Place). x.at) e in
      let end = ap (λ (x : Place). x.end) e in
      record {
        refilled = λ z. absurd (h z);
        flushed = λ _ _. (w, (refl, refl));
        taken = λ _ z. absurd (omega (arith, k, z));
        fits = fits_by f (omega (arith, at, end, f.used)) (omega (arith, end, f.read)) (ap (λ (x : Place). x.kept) e) (ap (λ (x : Place). x.filled) e);
        less = by_eq q.steps 0 (λ z. omega (arith, z)) (λ n. omega (arith, w.steps n));
        ready = λ _ n. absurd (n (ap (λ (x : Place). x.has_line) e));
      }

  pub next-taken : {line' : List ℕ} → p.at ≢ p.end → p.filled + room ≤ buffer_size → Taken buf line (one_less p) line' q → Next room buf line p buf line' q
  next-taken h k t =
      record {
        refilled = λ z. absurd (h z);
        flushed = λ _ z. absurd (omega (arith, k, z));
        taken = λ _ _. (t, refl);
        fits = record { used = t.used; read = omega (arith, t.end, f.read); kept = t.held; filled = omega (arith, t.filled, f.filled) };
        less = omega (arith, t.steps);
        ready = λ _ _. record { kept = t.held; begins = t.begins; stops = omega (arith, t.stops, t.end, f.read); free = omega (arith, t.filled) };
      }

-- the answer to a line, after what waits already
pub record Replied (a : Answering) (s : a.State) (line out : List ℕ) (filled : ℕ) (s' : a.State) (out' : List ℕ) (n : ℕ) : Type 0 where
  pub state : s' ≡ a.next s line
  pub room : filled + n ≤ buffer_size
  pub told : take (filled + n) out' ≡ take filled out ++ a.says s line

last_some : (l : List ℕ) → length l ≢ 0 → last l ≡ l ∷ []
unfolding last
last_some [] h = absurd (h refl)
last_some (x ∷ l) h = refl

module _ {a : Answering} where
  rests : {s : a.State} {line line' : List ℕ} {p q : Place} → line' ≡ line → q.kept ≡ p.kept → q.filled ≡ 0 → Rests a s line p s line' q
  rests e k z = record { state = refl; part = rw (e, k) refl; filled = z }

  -- no line is ready: where the input at hand is used up,
  none_reads : {s : a.State} {line buf' line' : List ℕ} {p q : Place} → line' ≡ line → q.steps ≢ 0 → q.end ≢ 0 → Refill p buf' q → ReadOn a s line p s buf' line' q
  none_reads e n m (halts h) = absurd (n h.steps)
  none_reads e n m (reads r) = record { rests = rests e r.kept r.filled; at = r.at; end = r.stands; steps = r.steps }
  none_reads e n m (ends d) = absurd (m d.end)

  none-ends : {s : a.State} {line buf' out : List ℕ} {p q : Place} → q.has_line ≡ false → q.steps ≢ 0 → q.end ≡ 0 → Refill p buf' q → Finished a s line p s out q
  unfolding state_after answers last
  none-ends z n m (halts h) = absurd (n h.steps)
  none-ends z n m (reads r) = absurd (r.some m)
  none-ends {p = p} z n m (ends d) =
      let k : p.kept ≡ 0 = by_eq p.kept 0 (λ h. h) (λ h. absurd (false≢true (sym z ∙ d.has_line ∙ eq_no p.kept 0 false true h))) in
      record { at = d.at; held = d.kept ∙ k; steps = d.steps; state = rw k refl; told = rw (k, d.filled) refl }

  none-stops : {s : a.State} {line buf' line' : List ℕ} {p q : Place} → line' ≡ line → q.steps ≡ 0 → Refill p buf' q → Stopped a s line p s line' q
  none-stops e z (halts h) = record { rests = rests e h.kept h.filled; at = h.at; end = h.end }
  none-stops e z (reads r) = absurd (r.left z)
  none-stops e z (ends d) = absurd (omega (arith, z, d.steps))

  -- where there is no room,
  none-wrote : {s : a.State} {buf line buf' line' : List ℕ} {p q : Place} → Flushed (one_less p) q → buf' ≡ buf → line' ≡ line → Wrote a s buf line p s buf' line' q
  none-wrote w b e =
      record {
        rests = rests e (ap (λ (x : Place). x.kept) w.place) (ap (λ (x : Place). x.filled) w.place);
        input = b;
        at = ap (λ (x : Place). x.at) w.place;
        end = ap (λ (x : Place). x.end) w.place;
        steps = w.steps;
      }

  -- and where a piece of a line is held
  none-went : {s : a.State} {buf line out buf' line' : List ℕ} {p q : Place} → Taken buf line (one_less p) line' q → buf' ≡ buf → q.has_line ≡ false
      → Went a s buf line out p s buf' line' out q
  unfolding state_after answers
  none-went {out = out} {p = p} t b z =
      record {
        input = b;
        on = t.on;
        end = t.end;
        steps = t.steps;
        state = rw (t.none z).0 refl;
        part = (t.none z).1;
        told = rw ((t.none z).0, t.filled) (sym (append-nil (take p.filled out)));
      }

  pub step-none : {room : ℕ} (s : a.State) {buf line : List ℕ} (out : List ℕ) {buf' line' : List ℕ} {p q : Place}
      → Next room buf line p buf' line' q → q.has_line ≡ false → Stepped a room s buf line out p s buf' line' out q
  step-none s out x z =
      record {
        went = λ h r. none-went (x.taken h r).0 (x.taken h r).1 z;
        wrote = λ h r. none-wrote (x.flushed h r).0 (x.flushed h r).1.0 (x.flushed h r).1.1;
        read_on = λ h n m. none_reads (x.refilled h).held n m (refill (x.refilled h));
        finished = λ h n m. none-ends z n m (refill (x.refilled h));
        stopped = λ h n. none-stops (x.refilled h).held n (refill (x.refilled h));
        fits = x.fits;
        less = x.less;
      }

  -- a line is answered: the last one,
  line-ends : {s s' : a.State} {line : List ℕ} (buf' : List ℕ) {line' out out' : List ℕ} {p q : Place} {n : ℕ} → p.kept ≤ length line' → line' ≡ line → q.has_line ≢ false
      → Replied a s (ready_line buf' line' q) out q.filled s' out' n → Ended p q → Finished a s line p s' out' (answered_with q n)
  unfolding state_after answers ready_line
  line-ends {s = s} {line = line} buf' {line' = line'} {out = out} {p = p} {q = q} b e m r d =
      let k : p.kept ≢ 0 = λ z. m (d.has_line ∙ eq_yes p.kept 0 false true z) in
      let y : ready_line buf' line' q ≡ take p.kept line = eq_no q.kept 0 _ _ (λ z. k (sym d.kept ∙ z)) ∙ rw (e, d.kept) refl in
      let w : last (take p.kept line) ≡ take p.kept line ∷ [] = last_some _ (λ z. k (omega (arith, z, length-take-le p.kept line (omega (arith, b, ap length e))))) in
      record {
        at = d.at;
        held = refl;
        steps = d.steps;
        state = rw w (r.state ∙ ap (a.next s) y);
        told = r.told ∙ rw (w, d.filled, y) (sym (append-nil (a.says s (take p.kept line))));
      }

  -- and any other
  line-went : Cuts a → {s s' : a.State} {buf line out buf' line' out' : List ℕ} {p q : Place} {n : ℕ} → Taken buf line (one_less p) line' q → buf' ≡ buf → q.has_line ≢ false
      → Replied a s (ready_line buf' line' q) out q.filled s' out' n → Went a s buf line out p s' buf' line' out' (answered_with q n)
  unfolding state_after answers cut
  line-went c {s = s} {buf = buf} {line = line} {out = out} {line' = line'} {p = p} {q = q} t b z r' =
      let r = rw b at r' in
      let ready = ready_line buf line' q in
      let e = ended (take p.kept line) (between p.at q.at buf) in
      record {
        input = b;
        on = t.on;
        end = t.end;
        steps = t.steps;
        state = r.state ∙ sym (c.next s ready) ∙ ap (state_after a s) (sym (t.one z).0) ∙ after-cut c s e;
        part = sym (ap cut (t.one z).1);
        told = r.told
            ∙ ap (λ (x : ℕ). take x out ++ a.says s ready) t.filled
            ∙ ap (λ (x : List ℕ). take p.filled out ++ x)
            (sym (c.says s ready) ∙ sym (append-nil (a.says s (cut ready))) ∙ ap (answers a s) (sym (t.one z).0) ∙ answers-cut c s e);
      }

  pub step_line : Cuts a → {room : ℕ} {s s' : a.State} {buf line out buf' line' out' : List ℕ} {p q : Place} {n : ℕ} → length line' ≡ longest_kept
      → Next room buf line p buf' line' q → q.has_line ≢ false → Replied a s (ready_line buf' line' q) out q.filled s' out' n
      → Stepped a room s buf line out p s' buf' line' out' (answered_with q n)
  step_line c {buf' = buf'} {p = p} {q = q} w x m r =
      record {
        went = λ h k. line-went c (x.taken h k).0 (x.taken h k).1 m r;
        wrote = λ h k. absurd (m (ap (λ (y : Place). y.has_line) (x.flushed h k).0.place));
        read_on = λ h k e. absurd (e (ready_last m (refill (x.refilled h))).end);
        finished = λ h k e. let d = ready_last m (refill (x.refilled h)) in line-ends buf' (omega (arith, w, d.kept, x.fits.kept)) (x.refilled h).held m r d;
        stopped = λ h k. absurd (omega (arith, k, (ready_last m (refill (x.refilled h))).steps));
        fits = record { used = x.fits.used; read = x.fits.read; kept = omega arith; filled = r.room };
        less = x.less;
      }

-- the free part of a buffer of which so much is filled
abbrev pub free : List ℕ → ℕ → List ℕ
free out filled = take (buffer_size - filled) (drop filled out)

module _ (out : List ℕ) (size : length out ≡ buffer_size) where
  pub free-room : (filled room : ℕ) → filled + room ≤ buffer_size → room ≤ length (free out filled)
  free-room filled room h = simp (length-take, length-drop) (omega arith)

  -- an answer in the free part of a buffer, which comes back as x and is no longer than it was
  pub replied : {a : Answering} {s s' : a.State} {line : List ℕ} {n : ℕ} {x : List ℕ} (filled : ℕ) → filled ≤ buffer_size
      → Answered a s line (free out filled) s' x n → length x ≡ length (free out filled)
      → Replied a s line out filled s' (take filled out ++ (x ++ drop (buffer_size - filled) (drop filled out))) n
  unfolding put
  replied {a = a} {s = s} {line = line} {n = n} {x = x} filled h w l =
      let t = a.says s line in
      let d = free out filled in
      let rest = drop (buffer_size - filled) (drop filled out) in
      let r = drop (0 + length t) d ++ rest in
      let e : take filled out ++ (x ++ rest) ≡ (take filled out ++ t) ++ r =
      ap (λ (y : List ℕ). take filled out ++ (y ++ rest)) w.buffer
      ∙ ap (λ (y : List ℕ). take filled out ++ y) (append_assoc t (drop (0 + length t) d) rest)
      ∙ sym (append_assoc (take filled out) t r) in
      let m : length (take filled out ++ t) ≡ filled + n =
      length-append (take filled out) t ∙ omega (arith, length-take-le filled out (omega arith), w.count) in
      let f = put_fits d t w.buffer l in
      let b : n ≤ buffer_size - filled = omega (arith, w.count, simp (length-take, length-drop) at f) in
      record { state = w.state; room = omega arith; told = ap (take (filled + n)) e ∙ take_at (take filled out ++ t) r (filled + n) m }
