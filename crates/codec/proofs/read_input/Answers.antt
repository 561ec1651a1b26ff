use mathlib.Core.Path.{refl, sym}
use Rattle.octets.specs.Test.{when, mapped}
use Rattle.frame.specs.Read.{kind_of, cut_block, read_input}
use Rattle.frame.proofs.Classes.{of_frame, of_request, of_unknown, frame_no_request}
use Rattle.frame.proofs.Reading.{unknown_frame}
use Rattle.codec.proofs.Told as told
use Rattle.codec.proofs.read_input.Goals as goal

pub returns-in-Some-Frame : goal.returns-in-Some-Frame
unfolding read_input when
returns-in-Some-Frame c =
    let s = c.args.s.now in
    rw (frame_no_request (kind_of s) (of_frame (kind_of s) (rw (c.in-Some-Frame.is, c.in-Some-Frame.field-0-is) at (sym c.class_of.ensures))))
    (told.of_frame (cut_block s) c.read_frame.result c.map.result c.map.ensures.cases c.read_frame.ensures)

pub returns-in-Some-Request : goal.returns-in-Some-Request
unfolding read_input when
returns-in-Some-Request c =
    let s = c.args.s.now in
    rw ((of_request (kind_of s) (rw (c.in-Some-Request.is, c.in-Some-Request.field-0-is) at (sym c.class_of.ensures))).1)
    (told.of_request (cut_block s) c.read_request.result c.map-in-Some-Request.result c.map-in-Some-Request.ensures.cases c.read_request.ensures)

pub returns-in-None : goal.returns-in-None
unfolding read_input when mapped
returns-in-None c =
    let s = c.args.s.now in
    let u = of_unknown (kind_of s) (rw c.in-None.is at (sym c.class_of.ensures)) in
    rw (u.1, ← unknown_frame s u.0) refl
