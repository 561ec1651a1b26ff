-- The worked lists, by computation; demand 3 holds of each.
use mathlib.Core.Path.{refl}
use mathlib.Core.List.{List, [], ◌∷◌, Memᴰ}
use Rattle.octets.specs.Test.{when, if_eq, if_lt, first, outcome}
use Rattle.frame.specs.Frame.{Frame}
use Rattle.protocol.specs.Table.{when_closed, when_listening, when_active, when_passive, data_row, open_rows, when_established, when_closing, rule, moved_down, apply, step}
use Rattle.protocol.specs.Requests.{request_questions, refusal, resent, hung_up, accept, request}
use Rattle.protocol.specs.History.{perform, does, now, sent, recorded}
use Rattle.protocol.specs.World.{called, ends}
use Rattle.protocol.specs.Claim.{handed_up_in, Demand}
use Rattle.protocol.specs.Examples.{start, call_one, call_both, ping, pong, talk, BothOpen, BothHandUp}
use Rattle.protocol.specs.Examples.{entries, answers_of, unheard, called_by_both, answered_too_late, answered_anew, opens_late, HungUp}
use Rattle.protocol.specs.Examples.{stays_closed, calls_at_once, opens_too_late, cut_short, LostPower}
use Rattle.protocol.proofs.Theorem.{demand_3}

-- the frame delivered is the last one sent
last : {f : Frame} {l : List Frame} → Memᴰ f (f ∷ l)
last = Memᴰ.head refl

pub one-calls : BothOpen call_one
unfolding called recorded does perform now sent step rule apply when_listening when_active when_passive
    request refusal request_questions accept first outcome if_eq if_lt when
one-calls = record { due = (tt, (tt, (last, (last, (last, tt))))); a_open = refl; b_open = refl }

pub both_call : BothOpen call_both
unfolding called recorded does perform now sent step rule apply when_active
    request refusal request_questions accept first outcome if_eq if_lt when
both_call = record { due = (tt, (tt, (last, (last, (last, tt))))); a_open = refl; b_open = refl }

pub they_talk : BothOpen talk
unfolding called recorded does perform now sent step rule apply when_listening when_active when_passive when_established open_rows data_row moved_down
    request refusal request_questions accept first outcome if_eq if_lt when
they_talk = record {
  due = (tt, (tt, (last, (last, (last, (tt, (tt, (last, (tt, (last, (Memᴰ.tail last, (tt, (last, tt)))))))))))));
  a_open = refl;
  b_open = refl;
}

pub they_hear : BothHandUp talk (pong ∷ []) (ping ∷ pong ∷ [])
unfolding handed_up_in called recorded does perform now sent step rule apply when_listening when_active when_passive when_established open_rows data_row moved_down
    request refusal request_questions accept first outcome if_eq if_lt when
they_hear = record { by_a = refl; by_b = refl }

pub so_they_talk : Demand ends ends start talk
so_they_talk = demand_3 start ((refl, refl), (refl, refl)) talk they_talk.due

pub hung-up : HungUp
unfolding entries answers_of unheard called_by_both answered_too_late answered_anew opens_late
    called recorded does perform now sent step rule apply when_closed when_listening when_active when_passive when_established open_rows when_closing
    request refusal request_questions resent hung_up accept first outcome if_eq if_lt when
hung-up = record {
  before_anything = record { due = (tt, (tt, tt)); right = refl };
  by_one_of_both = record { due = (tt, (tt, (last, (tt, (last, (last, tt)))))); right = refl };
  before_the_other_opens = record { due = (tt, (tt, (last, (tt, (Memᴰ.tail last, (last, (last, tt))))))); right = refl };
  before_the_answer = record { due = (tt, (tt, (last, (tt, (tt, (last, (last, tt))))))); right = refl };
  before_an_answer_anew = record { due = (tt, (tt, (last, (tt, (tt, (last, (tt, (last, (last, (tt, (last, (last, tt)))))))))))); right = refl };
}

pub so_it_opens_late : Demand ends ends start (entries opens_late)
so_it_opens_late = demand_3 start ((refl, refl), (refl, refl)) (entries opens_late) hung-up.before_the_other_opens.due

pub lost_power : LostPower
unfolding entries answers_of stays_closed calls_at_once opens_too_late cut_short
    called recorded does perform now sent step rule apply when_closed when_listening when_active when_passive when_established when_closing
    request refusal request_questions hung_up accept first outcome if_eq if_lt when
lost_power = record {
  and_stays_closed = record { due = (tt, (tt, (last, (last, (last, (tt, (last, (last, tt)))))))); right = refl };
  and_calls_at_once = record { due = (tt, (tt, (last, (last, (last, (tt, (tt, (last, (last, (tt, (last, tt))))))))))); right = refl };
  as_the_other_opens = record { due = (tt, (tt, (last, (tt, (last, (last, (last, tt))))))); right = refl };
  inside_a_call = record { due = (tt, (tt, (tt, (tt, (tt, tt))))); right = refl };
}

pub so_it_opens_too_late : Demand ends ends start (entries opens_too_late)
so_it_opens_too_late = demand_3 start ((refl, refl), (refl, refl)) (entries opens_too_late) lost_power.as_the_other_opens.due
