-- A plan that is carried out where the record lies leaves the octets of the record after it.
use Prim.Native.Nat.{ℕ, ◌+◌, ◌-◌, ◌≤◌}
use mathlib.Core.Path.{◌≡◌, refl, sym, ap, ◌∙◌}
use mathlib.Core.List.{List, [], ◌∷◌, ◌++◌}
use native.Mathlib.Omega.{arith}
use lib.ListN.{length, take, drop, replicate, length-replicate}
use Rattle.octets.specs.Sizes.{longest_block, queue_size, held_size}
use Rattle.endpoint.specs.View.{places_size}
use Rattle.octets.specs.Octets.{put}
use Rattle.octets.proofs.Octets.{length-put, then_put}
use Rattle.octets.proofs.Parts.{length_part, part_back, part_same, after-put}
use Rattle.frame.specs.Frame.{Block}
use Rattle.step_plan.specs.declared.Plan.{Plan}
use Rattle.step_plan.specs.declared.Places.{Places}
use Rattle.step_plan.specs.declared.Places.TheVariants.{Keep, Clear}
use Rattle.endpoint.specs.declared.Endpoint.{Endpoint}
use Rattle.endpoint.specs.Record.{encode, decode, lengths_at, blocks_at, held_lengths_at, held_blocks_at, record_size}
use Rattle.endpoint.specs.Internal.{record_of, numbers_in}
use Rattle.endpoint.proofs.Record.{numbers_long, encode_puts}
use Rattle.endpoint_places.specs.Internal.{InEight, PlanFits, lengths_after, blocks_after, places_after, carried}
use Rattle.endpoint_places.proofs.Places.{length-after, for-lengths, for-blocks}

-- the n octets of x from at on are lent, and come back as s
abbrev back : List ℕ → ℕ → ℕ → List ℕ → List ℕ
back x at n s = take at x ++ (s ++ drop n (drop at x))

-- x has as many octets as rec, and from the octet at on the same
record SameFrom (at : ℕ) (rec x : List ℕ) : Type 0 where
  as_long : length x ≡ length rec
  same : (m : ℕ) → at ≤ m → drop m x ≡ drop m rec

-- what follows the part that comes back stays
behind : {at : ℕ} {rec x : List ℕ} → SameFrom at rec x → (s : List ℕ) (n m : ℕ) → length s ≡ n → at + n ≡ m → m ≤ length rec → SameFrom m rec (back x at n s)
behind {at} {rec} {x} r s n m k e h =
    let w = part_back x s at n k in
    record {
      as_long = ap length w ∙ length-put x s at (omega (arith, r.as_long)) ∙ r.as_long;
      same = λ i g. ap (drop i) w ∙ after-put x s at i (omega arith) (omega (arith, r.as_long)) ∙ r.same i (omega arith);
    }

-- the lengths and the blocks of eight places are as many after a plan
module _ (b : Block) (k : Places) (f : InEight k × (length b ≤ longest_block)) (x : List ℕ) (at : ℕ) where
  lengths-kept : at + queue_size ≤ length x → {l : List ℕ} → l ≡ lengths_after k b (take queue_size (drop at x)) → length l ≡ queue_size
  lengths-kept h e =
      let d = length_part x at queue_size h in
      ap length e ∙ length-after k 1 (length b ∷ []) (take queue_size (drop at x)) (for-lengths b f.1 k f.0 _ d) ∙ d

  blocks-kept : at + places_size ≤ length x → {l : List ℕ} → l ≡ blocks_after k b (take places_size (drop at x)) → length l ≡ places_size
  blocks-kept h e =
      let d = length_part x at places_size h in
      ap length e ∙ length-after k longest_block b (take places_size (drop at x)) (for-blocks b f.1 k f.0 _ d) ∙ d

-- a record has as many octets once its numbers are stored
as_many : (rec : List ℕ) (p : Plan) → record_size ≤ length rec → {x : List ℕ} → x ≡ put rec 0 (numbers_in p.numbers) → length x ≡ length rec
as_many rec p long ex = ap length ex ∙ length-put rec (numbers_in p.numbers) 0 (omega (arith, numbers_long p.numbers))

-- the record while its four arrays are lent, one after the other
module _ (x l c hl : List ℕ) where
  abbrev x1 : List ℕ
  x1 = back x lengths_at queue_size l

  abbrev x2 : List ℕ
  x2 = back x1 blocks_at places_size c

  abbrev x3 : List ℕ
  x3 = back x2 held_lengths_at held_size hl

module _ (rec : List ℕ) (p : Plan) (b : Block) (long : record_size ≤ length rec) {x l c hl hc : List ℕ} (ex : x ≡ put rec 0 (numbers_in p.numbers))
    (el : l ≡ lengths_after p.queue b (take queue_size (drop lengths_at x)))
    (ec : c ≡ blocks_after p.queue b (take places_size (drop blocks_at (x1 x l c hl))))
    (ehl : hl ≡ lengths_after p.held b (take held_size (drop held_lengths_at (x2 x l c hl))))
    (ehc : hc ≡ blocks_after p.held b (take places_size (drop held_blocks_at (x3 x l c hl)))) (fits : PlanFits p b) where
  s0 : SameFrom lengths_at rec x
  s0 =
      let n = numbers_in p.numbers in
      record { as_long = as_many rec p long ex; same = λ m h. ap (drop m) ex ∙ after-put rec n 0 m (omega (arith, numbers_long p.numbers)) (omega arith) }

  l8 : length l ≡ queue_size
  l8 = lengths-kept b p.queue (fits.0.0, fits.1) x lengths_at (omega (arith, s0.as_long)) el

  s1 : SameFrom blocks_at rec (x1 x l c hl)
  s1 = behind s0 l queue_size blocks_at l8 refl (omega arith)

  c512 : length c ≡ places_size
  c512 = blocks-kept b p.queue (fits.0.0, fits.1) (x1 x l c hl) blocks_at (omega (arith, s1.as_long)) ec

  s2 : SameFrom held_lengths_at rec (x2 x l c hl)
  s2 = behind s1 c places_size held_lengths_at c512 refl (omega arith)

  hl8 : length hl ≡ held_size
  hl8 = lengths-kept b p.held (fits.0.1, fits.1) (x2 x l c hl) held_lengths_at (omega (arith, s2.as_long)) ehl

  s3 : SameFrom held_blocks_at rec (x3 x l c hl)
  s3 = behind s2 hl held_size held_blocks_at hl8 refl (omega arith)

  hc512 : length hc ≡ places_size
  hc512 = blocks-kept b p.held (fits.0.1, fits.1) (x3 x l c hl) held_blocks_at (omega (arith, s3.as_long)) ehc

  new : record_of p.numbers l c hl hc ≡ carried p b (decode rec)
  unfolding carried decode
  new =
      let n = p.numbers in
      let e1 = el ∙ ap (λ (z : List ℕ). lengths_after p.queue b (take queue_size z)) (s0.same lengths_at (omega arith)) in
      let e2 = ec ∙ ap (λ (z : List ℕ). blocks_after p.queue b (take places_size z)) (s1.same blocks_at (omega arith)) in
      let e3 = ehl ∙ ap (λ (z : List ℕ). lengths_after p.held b (take held_size z)) (s2.same held_lengths_at (omega arith)) in
      let e4 = ehc ∙ ap (λ (z : List ℕ). blocks_after p.held b (take places_size z)) (s3.same held_blocks_at (omega arith)) in
      λ i. record {
        state = n.state;
        local = n.local;
        remote = n.remote;
        accepted = n.accepted;
        delivered = n.delivered;
        waiting = n.waiting;
        lengths = e1 i;
        blocks = e2 i;
        held_lengths = e3 i;
        held_blocks = e4 i;
      }

  pub carried-out : back (x3 x l c hl) held_blocks_at places_size hc ≡ put rec 0 (encode (carried p b (decode rec)))
  carried-out =
      encode_puts p.numbers l c hl hc rec (record { lengths = l8; blocks = c512; held_lengths = hl8; held_blocks = hc512 }) long ex
      (part_back x l lengths_at queue_size l8) (part_back (x1 x l c hl) c blocks_at places_size c512) (part_back (x2 x l c hl) hl held_lengths_at held_size hl8) (part_back (x3 x l c hl) hc held_blocks_at places_size hc512)
      ∙ ap (λ (e : Endpoint). put rec 0 (encode e)) new

-- Where every place stays, it is as though each array had been lent and had come back as it was.
kept_same : {k : Places} (w : ℕ) (s d : List ℕ) → k ≡ Keep → d ≡ places_after k w s d
unfolding places_after
kept_same w s d e = rw e refl

pub kept : (rec : List ℕ) (p : Plan) (b : Block) → record_size ≤ length rec → p.queue ≡ Keep → p.held ≡ Keep → PlanFits p b
    → {x : List ℕ} → x ≡ put rec 0 (numbers_in p.numbers) → x ≡ put rec 0 (encode (carried p b (decode rec)))
kept rec p b long q h fits {x} ex =
    let l : List ℕ = take queue_size (drop lengths_at x) in
    let y1 : List ℕ = back x lengths_at queue_size l in
    let c : List ℕ = take places_size (drop blocks_at y1) in
    let y2 : List ℕ = back y1 blocks_at places_size c in
    let hl : List ℕ = take held_size (drop held_lengths_at y2) in
    let y3 : List ℕ = back y2 held_lengths_at held_size hl in
    let hc : List ℕ = take places_size (drop held_blocks_at y3) in
    part_same x lengths_at queue_size ∙ part_same y1 blocks_at places_size ∙ part_same y2 held_lengths_at held_size ∙ part_same y3 held_blocks_at places_size
    ∙ carried-out rec p b long {x = x} {l = l} {c = c} {hl = hl} {hc = hc} ex (kept_same 1 (length b ∷ []) l q) (kept_same longest_block b c q) (kept_same 1 (length b ∷ []) hl h) (kept_same longest_block b hc h) fits

-- Where every place is written afresh, the arrays are one run of zeros.
abbrev run_size : ℕ
run_size = record_size - lengths_at

zeros : (d : List ℕ) (at n : ℕ) → at + n ≤ length d → replicate {A = ℕ} (length (take n (drop at d))) 0 ≡ replicate n 0
zeros d at n h = ap (λ (k : ℕ). replicate k 0) (length_part d at n h)

module _ (rec : List ℕ) (p : Plan) (b : Block) (long : record_size ≤ length rec) (q : p.queue ≡ Clear) (h : p.held ≡ Clear) where
  all-zeros : encode (carried p b (decode rec)) ≡ numbers_in p.numbers ++ replicate run_size 0
  unfolding encode carried decode places_after numbers_in
  all-zeros =
      let z1 = zeros rec lengths_at queue_size (omega arith) in
      let z2 = zeros rec blocks_at places_size (omega arith) in
      let z3 = zeros rec held_lengths_at held_size (omega arith) in
      let z4 = zeros rec held_blocks_at places_size (omega arith) in
      rw (q, h) (λ i. numbers_in p.numbers ++ (z1 i ++ (z2 i ++ (z3 i ++ z4 i))))

  pub cleared : {x z : List ℕ} → x ≡ put rec 0 (numbers_in p.numbers) → z ≡ replicate (length (take run_size (drop lengths_at x))) 0
      → back x lengths_at run_size z ≡ put rec 0 (encode (carried p b (decode rec)))
  cleared {x} {z} ex ez =
      let n = p.numbers in
      let l : length x ≡ length rec = as_many rec p long ex in
      let e : z ≡ replicate run_size 0 = ez ∙ zeros x lengths_at run_size (omega arith) in
      then_put rec (numbers_in n) z lengths_at (numbers_long n) (omega arith) ex (part_back x z lengths_at run_size (ap length e ∙ length-replicate {A = ℕ} run_size 0))
      ∙ ap (put rec 0) (ap (λ (s : List ℕ). numbers_in n ++ s) e ∙ sym all-zeros)
