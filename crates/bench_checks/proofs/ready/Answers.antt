use Rattle.std.proofs.Common.{sym, ◌∙◌}
use Rattle.call_spec.specs.Calls.{rooms}
use Rattle.bench_checks.specs.Ready.{bench_in}
use Rattle.bench_checks.proofs.Tests.{no_room, unsound, wrong-page, all_passed, long}
use Rattle.bench_checks.proofs.ready.Goals as goal

pub returns-then-not-has_room : goal.returns-then-not-has_room
returns-then-not-has_room c = sym (no_room _ _ _ (sym c.has_room.ensures ∙ c.if-not-has_room.true))

pub is_sound-requires : goal.is_sound-requires
is_sound-requires c = long (bench_in c.args.bench) (rooms c.args.room c.args.block_room) (sym c.has_room.ensures ∙ c.if-not-has_room.false)

pub returns-then-not-is_sound : goal.returns-then-not-is_sound
returns-then-not-is_sound c = sym (unsound _ _ _ (sym c.has_room.ensures ∙ c.if-not-has_room.false) (sym c.is_sound.ensures ∙ c.if-not-is_sound.true))

pub is_paged-requires : goal.is_paged-requires
is_paged-requires c = long (bench_in c.args.bench) (rooms c.args.room c.args.block_room) (sym c.has_room.ensures ∙ c.if-not-has_room.false)

pub returns-then-not-is_paged : goal.returns-then-not-is_paged
returns-then-not-is_paged c =
    sym (wrong-page _ _ _ (sym c.has_room.ensures ∙ c.if-not-has_room.false) (sym c.is_sound.ensures ∙ c.if-not-is_sound.false) (sym c.is_paged.ensures ∙ c.if-not-is_paged.true))

pub returns : goal.returns
returns c =
    sym (all_passed _ _ _ (sym c.has_room.ensures ∙ c.if-not-has_room.false) (sym c.is_sound.ensures ∙ c.if-not-is_sound.false) (sym c.is_paged.ensures ∙ c.if-not-is_paged.false))
