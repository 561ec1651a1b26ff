use Prim.Native.Nat.{ℕ}
use mathlib.Core.Path.{◌≡◌, refl, sym, ap, ◌∙◌}
use mathlib.Core.List.{List, []}
use Rattle.std.proofs.lemmas.Result.{err_from_is_err_and}
use Rattle.octets.specs.Test.{mapped, ok, when, if_eq}
use Rattle.octets.specs.Octets.{size}
use Rattle.frame.specs.Layout.{has_block, layout, numbers_size}
use Rattle.frame.specs.Read.{kind_of, after_head, cut_block, block_at, request_at, read_request}
use Rattle.frame.specs.Answer.{request_of, request_number}
use Rattle.frame.specs.declared.RequestKind.{RequestKind}
use Rattle.frame.specs.declared.RequestKind.TheVariants.{Connect, Listen, EndListening, Close, Send, Timer, Collect}
use Rattle.frame.proofs.Classes.{no_request, none_kind, rest_is, kind_is_request, request_no_frame}
use Rattle.octets.proofs.Outcomes.{refusal_some}
use Rattle.frame.proofs.Reading.{unknown_request, request-refused, request_read}
use native.Mathlib.Omega.{arith}
use Rattle.frame_read.proofs.read_request.Goals as goal

-- the request of a kind
meant : (q : RequestKind) (r : List ℕ) → request_of q (block_at (request_number (request_of q [])) r) ≡ request_at (request_number (request_of q [])) r
unfolding request_at request_of request_number block_at has_block numbers_size layout size if_eq when
meant Connect r = refl
meant Listen r = refl
meant EndListening r = refl
meant Close r = refl
meant Send r = refl
meant Timer r = refl
meant Collect r = refl

pub returns-in_default : goal.returns-in_default
unfolding mapped
returns-in_default c =
    let s = c.args.s.now in
    unknown_request s (no_request (kind_of s) (λ r. omega (arith, r, none_kind s (omega (arith, c.in_default.len_below)))))

pub returns-in_err-kind : goal.returns-in_err-kind
unfolding mapped kind_of
returns-in_err-kind c =
    let p = err_from_is_err_and c.from_residual.result c.from_residual.ensures.1 in
    let e = rw c.in_err-kind.was at c.try_from.ensures in
    rw (p.1, p.2, e.0) (unknown_request c.args.s.now e.1)

pub returns-in_err-request_refusal : goal.returns-in_err-request_refusal
unfolding mapped kind_of after_head read_request
returns-in_err-request_refusal c =
    let s = c.args.s.now in
    let p = err_from_is_err_and c.from_residual-in_err-request_refusal.result c.from_residual-in_err-request_refusal.ensures.1 in
    let e = rw c.in_ok-kind.was at c.try_from.ensures in
    let t = rw (e []) at (kind_is_request c.in_ok-kind.kind []) in
    let h = rw (rest_is s, e []) at (rw c.in_err-request_refusal.was at c.request_refusal.ensures) in
    rw (p.1, p.2) (request-refused (kind_of s) (after_head s) t h (refusal_some _))

pub returns : goal.returns
unfolding mapped kind_of after_head read_request cut_block
returns c =
    let s = c.args.s.now in
    let q = c.in_ok-kind.kind in
    let e = rw c.in_ok-kind.was at c.try_from.ensures in
    let t = rw (e []) at (kind_is_request q []) in
    let h = rw (rest_is s, e []) at (rw c.in_ok-request_refusal.was at c.request_refusal.ensures) in
    ap ok (rw (e []) at (meant q (after_head s))) ∙ sym (request_read (kind_of s) (after_head s) t (request_no_frame (kind_of s) t) (sym h))
