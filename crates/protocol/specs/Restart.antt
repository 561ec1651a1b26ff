-- A restart after a loss of power (document 02, N6), as far as the step table sees it.
use Rattle.std.specs.Prelude.{ℕ, ◌*◌, []}
use Rattle.octets.specs.Sizes.{numbers_each}
use Rattle.page.specs.Page.{used_for}
use Rattle.protocol.specs.Endpoint.{closed, Endpoint, none_held}

-- "After a restart the end is closed with L = 16 times the count of 00 bytes", of which the page has p. On a new page it is a fresh end.
abbrev pub restarted : ℕ → Endpoint
restarted p = record { state = closed; local = numbers_each * p; remote = 0; accepted = 0; delivered = 0; queue = []; held = none_held }

-- The count that goes with an end is L/16 rounded up, by question 15. So the page needs no place of its own here; where it is lent, in
-- octets, a restart looks at it and at nothing else.
abbrev pub after_restart : Endpoint → Endpoint
after_restart e = restarted (used_for e.local)
