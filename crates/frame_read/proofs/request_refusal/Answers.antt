use mathlib.Core.Path.{refl}
use mathlib.Core.Logic.{◌≢◌}
use mathlib.Core.Bool.{false}
use mathlib.Core.List.{[]}
use Rattle.octets.specs.Test.{first, when, if_eq}
use Rattle.octets.specs.Octets.{size}
use Rattle.frame.specs.Frame.{SEND}
use Rattle.frame.specs.Layout.{has_block, layout, numbers_size}
use Rattle.frame.specs.Read.{count_of, fixed_ok}
use Rattle.frame.specs.Answer.{request_of, request_number}
use Rattle.frame.specs.declared.RequestKind.{RequestKind}
use Rattle.frame.specs.declared.RequestKind.TheVariants.{Connect, Listen, EndListening, Close, Send, Timer, Collect}
use Rattle.frame.proofs.Classes.{request_range, kind_is_request}
use Rattle.frame.proofs.Shape.{Shape, numbers-size, request_shape}
use native.Mathlib.Omega.{arith}
use Rattle.frame_read.proofs.request_refusal.Goals as goal

-- only a send has a block
no_send : (q : RequestKind) → q ≢ Send → request_number (request_of q []) ≢ SEND
unfolding request_number request_of
no_send Connect n = λ e. omega arith
no_send Listen n = λ e. omega arith
no_send EndListening n = λ e. omega arith
no_send Close n = λ e. omega arith
no_send Send n = λ e. n refl
no_send Timer n = λ e. omega arith
no_send Collect n = λ e. omega arith

bare : (q : RequestKind) → q ≢ Send → Shape (request_number (request_of q [])) [] false false
bare q n =
    let k = request_number (request_of q []) in
    request_shape k (request_range k (kind_is_request q [])).0 (no_send q n)

pub returns-in-Send : goal.returns-in-Send
unfolding first when fixed_ok has_block count_of numbers_size layout size if_eq request_number request_of
returns-in-Send c = rw c.in-Send.is c.block_refusal.ensures

pub returns-in_default : goal.returns-in_default
unfolding first when fixed_ok size
returns-in_default c =
    let k = request_number (request_of c.args.kind []) in
    let sh = bare c.args.kind c.in_default.not-Send in
    rw (sh.has_block, numbers-size k c.args.rest.now [] false false sh) c.plain_refusal.ensures
