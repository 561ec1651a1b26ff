-- Demand 3 of the calls in octets, and that each does what the protocol says: the record's format is lawful.
use Rattle.protocol.specs.Claim.{NoEndAlone, NoNumberTwice}
use Rattle.call_spec.specs.Claim.{NeverRefused}
use Rattle.call_spec.specs.Holding.{PerformsAsSaid}
use Rattle.call_spec.specs.Sequence.{EightComeUp}
use Rattle.call_spec.proofs.Lift.{demand_3}
use Rattle.call_spec.proofs.Lift as lift
use Rattle.call_spec.proofs.Sequence as sequence
use Rattle.lent_record.specs.Record.{format, ends}
use Rattle.lent_record.proofs.Lawful.{lawful}

-- no end opens without its partner: any octets, any frame buffers, refused calls, restarts and cuts included
pub no_end_alone : NoEndAlone ends ends
no_end_alone = demand_3 format lawful

-- no number is used twice, and 12 and 15 refuse nothing
pub no_number_twice : NoNumberTwice ends ends
no_number_twice = lift.no_number_twice format lawful

pub never_refused : NeverRefused format
never_refused = lift.never_refused format lawful

-- a call on the record of a sound endpoint does what the protocol's call does that its octets say
pub performs : PerformsAsSaid format
performs = sequence.performs format lawful

-- the eight come up in sequence
pub in_sequence : EightComeUp format
in_sequence = sequence.in_sequence format lawful
