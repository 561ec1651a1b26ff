-- The record in octets: what the stores leave, and both round trips.
use Prim.Native.Nat.{ℕ, ◌+◌, ◌-◌, ◌%◌, ◌≤◌, ◌<◌}
use mathlib.Core.Path.{◌≡◌, refl, sym, ap, ◌∙◌}
use mathlib.Core.List.{List, [], ◌∷◌, ◌++◌, append_assoc}
use native.Mathlib.Omega.{arith}
use lib.ListN.{length, take, drop, get_or, length-append}
use lib.Seq.{take-add, drop-drop}
use Rattle.octets.specs.Sizes.{queue_size, held_size}
use Rattle.endpoint.specs.View.{places_size}
use Rattle.octets.specs.Octets.{put, octets_of, field, lay, fields, size, Octets}
use Rattle.octets.proofs.Octets.{width, octets_take, octets_drop, then_put, Fit, none, one, fields-lay, lay-fields, length-lay}
use Rattle.octets.proofs.Parts.{part_between, length_part, put_part}
use Rattle.endpoint.specs.declared.Endpoint.{Endpoint}
use Rattle.step_rules.specs.declared.Numbers.{Numbers}
use Rattle.endpoint.specs.Record.{accepted_at, blocks_at, delivered_at, held_blocks_at, held_lengths_at, lengths_at, local_at, record_size, remote_at, waiting_at, numbers_layout, encode, decode, RecordFits}
use Rattle.endpoint.specs.Claim.{WrittenReads, ReadWrites}
use Rattle.endpoint.specs.Internal.{record_of, numbers_in}
use Rattle.endpoint.proofs.Packs.{Long}

-- a number written over itself
pub put_same : (d : List ℕ) (at : ℕ) → Octets d → at + 4 ≤ length d → d ≡ put d at (octets_of 4 (field 4 at d))
unfolding field
put_same d at o h = put_part d at 4 h ∙ ap (put d at) (sym ((width 4).writes _ (length_part d at 4 h) (octets_take 4 (drop at d) (octets_drop at d o))))

byte : (v : ℕ) → v < 256 → v % 256 ≡ v
byte v h = omega arith

pub numbers-put : (n : Numbers) (d : List ℕ) → n.state < 256 → n.waiting < 256 → record_size ≤ length d
    → {a b c f g h : List ℕ} → a ≡ put d 0 (n.state ∷ []) → b ≡ put a local_at (octets_of 4 n.local) → c ≡ put b remote_at (octets_of 4 n.remote)
    → f ≡ put c accepted_at (octets_of 4 n.accepted) → g ≡ put f delivered_at (octets_of 4 n.delivered) → h ≡ put g waiting_at (n.waiting ∷ []) → h ≡ put d 0 (numbers_in n)
unfolding numbers_in lay octets_of
numbers-put e d rs rw' n {a} {b} {c} {f} {g} {h} ea eb ec ef eg eh =
    let p1 : List ℕ = e.state ∷ [] in
    let p2 : List ℕ = p1 ++ octets_of 4 e.local in
    let p3 : List ℕ = p2 ++ octets_of 4 e.remote in
    let p4 : List ℕ = p3 ++ octets_of 4 e.accepted in
    let p5 : List ℕ = p4 ++ octets_of 4 e.delivered in
    let s2 : b ≡ put d 0 p2 = then_put d p1 (octets_of 4 e.local) local_at refl (omega arith) ea eb in
    let s3 : c ≡ put d 0 p3 = then_put d p2 (octets_of 4 e.remote) remote_at refl (omega arith) s2 ec in
    let s4 : f ≡ put d 0 p4 = then_put d p3 (octets_of 4 e.accepted) accepted_at refl (omega arith) s3 ef in
    let s5 : g ≡ put d 0 p5 = then_put d p4 (octets_of 4 e.delivered) delivered_at refl (omega arith) s4 eg in
    let s6 : h ≡ put d 0 (p5 ++ (e.waiting ∷ [])) = then_put d p5 (e.waiting ∷ []) waiting_at refl (omega arith) s5 eh in
    rw (byte e.state rs, byte e.waiting rw') s6

pub numbers_long : (n : Numbers) → length (numbers_in n) ≡ lengths_at
unfolding numbers_in lay octets_of
numbers_long n = refl

-- the numbers, then the arrays, each at its place
pub encode_puts : (n : Numbers) (l b hl hb d : List ℕ) → Long (record_of n l b hl hb) → record_size ≤ length d
    → {u v x y z : List ℕ} → u ≡ put d 0 (numbers_in n) → v ≡ put u lengths_at l → x ≡ put v blocks_at b → y ≡ put x held_lengths_at hl → z ≡ put y held_blocks_at hb
    → z ≡ put d 0 (encode (record_of n l b hl hb))
unfolding encode numbers_in
encode_puts n l b hl hb d long h {u} {v} {x} {y} {z} eu ev ex ey ez =
    let p0 = numbers_in n in
    let p1 = p0 ++ l in
    let p2 = p1 ++ b in
    let p3 = p2 ++ hl in
    let n1 : length p1 ≡ blocks_at = length-append p0 l ∙ omega (arith, numbers_long n, long.lengths) in
    let n2 : length p2 ≡ held_lengths_at = length-append p1 b ∙ omega (arith, n1, long.blocks) in
    let n3 : length p3 ≡ held_blocks_at = length-append p2 hl ∙ omega (arith, n2, long.held_lengths) in
    let s1 : v ≡ put d 0 p1 = then_put d p0 l lengths_at (numbers_long n) (omega arith) eu ev in
    let s2 : x ≡ put d 0 p2 = then_put d p1 b blocks_at n1 (omega arith) s1 ex in
    let s3 : y ≡ put d 0 p3 = then_put d p2 hl held_lengths_at n2 (omega arith) s2 ey in
    then_put d p3 hb held_blocks_at n3 (omega arith) s3 ez ∙ ap (put d 0) (simp append_assoc)

-- what was laid out is read again
fit : (e : Endpoint) → RecordFits e → Fit numbers_layout (e.state ∷ e.local ∷ e.remote ∷ e.accepted ∷ e.delivered ∷ e.waiting ∷ [])
fit e r =
    one {w = 1} {v = e.state} (omega (arith, r.state))
    (one {w = 4} {v = e.local} r.local
    (one {w = 4} {v = e.remote} r.remote
    (one {w = 4} {v = e.accepted} r.accepted
    (one {w = 4} {v = e.delivered} r.delivered
    (one {w = 1} {v = e.waiting} (omega (arith, r.waiting)) none)))))

pub decode-encode : WrittenReads
unfolding decode encode fields size
decode-encode e d r =
    let vs = e.state ∷ e.local ∷ e.remote ∷ e.accepted ∷ e.delivered ∷ e.waiting ∷ [] in
    let p0 = lay numbers_layout vs in
    let p1 = p0 ++ e.lengths in
    let p2 = p1 ++ e.blocks in
    let p3 = p2 ++ e.held_lengths in
    let n0 : length p0 ≡ lengths_at = length-lay (fit e r) in
    let n1 : length p1 ≡ blocks_at = length-append p0 e.lengths ∙ omega (arith, n0, r.lengths) in
    let n2 : length p2 ≡ held_lengths_at = length-append p1 e.blocks ∙ omega (arith, n1, r.blocks) in
    let n3 : length p3 ≡ held_blocks_at = length-append p2 e.held_lengths ∙ omega (arith, n2, r.held_lengths) in
    let t = e.lengths ++ (e.blocks ++ (e.held_lengths ++ (e.held_blocks ++ d))) in
    let whole : encode e ++ d ≡ p0 ++ t = simp append_assoc in
    let all : fields 0 numbers_layout (p0 ++ t) ≡ vs = fields-lay [] t 0 refl (fit e r) in
    let ls : take queue_size (drop lengths_at (p0 ++ t)) ≡ e.lengths = part_between p0 e.lengths (e.blocks ++ (e.held_lengths ++ (e.held_blocks ++ d))) {s = p0 ++ t} refl n0 r.lengths in
    let bs : take places_size (drop blocks_at (p0 ++ t)) ≡ e.blocks = part_between p1 e.blocks (e.held_lengths ++ (e.held_blocks ++ d)) {s = p0 ++ t} (simp append_assoc) n1 r.blocks in
    let hls : take held_size (drop held_lengths_at (p0 ++ t)) ≡ e.held_lengths = part_between p2 e.held_lengths (e.held_blocks ++ d) {s = p0 ++ t} (simp append_assoc) n2 r.held_lengths in
    let hbs : take places_size (drop held_blocks_at (p0 ++ t)) ≡ e.held_blocks = part_between p3 e.held_blocks d {s = p0 ++ t} (simp append_assoc) n3 r.held_blocks in
    ap decode whole
    ∙ (λ i. record {
      state = get_or (all i) 0 0;
      local = get_or (all i) 1 0;
      remote = get_or (all i) 2 0;
      accepted = get_or (all i) 3 0;
      delivered = get_or (all i) 4 0;
      waiting = get_or (all i) 5 0;
      lengths = ls i;
      blocks = bs i;
      held_lengths = hls i;
      held_blocks = hbs i;
    })

-- what was read is laid out again, a part at a time
parts : (at n m : ℕ) (s : List ℕ) {x : List ℕ} → x ≡ take m (drop (at + n) s) → take n (drop at s) ++ x ≡ take (n + m) (drop at s)
parts at n m s h = ap (λ (x : List ℕ). take n (drop at s) ++ x) (h ∙ ap (take m) (sym (drop-drop n at s))) ∙ sym (take-add n m (drop at s))

pub encode-decode : ReadWrites
unfolding decode encode fields size
encode-decode s o n =
    ap (λ (x : List ℕ). x ++ (take queue_size (drop lengths_at s) ++ (take places_size (drop blocks_at s) ++ (take held_size (drop held_lengths_at s) ++ take places_size (drop held_blocks_at s)))))
    (lay-fields numbers_layout s 0 (omega arith) o)
    ∙ parts 0 lengths_at (record_size - lengths_at) s
    (parts lengths_at queue_size (record_size - blocks_at) s
    (parts blocks_at places_size (record_size - held_lengths_at) s
    (parts held_lengths_at held_size places_size s refl)))
