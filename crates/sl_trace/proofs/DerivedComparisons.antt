-- Where derived comparisons on what comes and on what is done are true: of values that are one, and of no others.
use Rattle.sl_sector.proofs.DerivedComparisons.{and_then, last, maybe, none, record_told, through, told}
use Rattle.sl_sector.specs.contracts.sector.OwnerPartialEq.TheImpl.{ghosts as owner}
use Rattle.sl_sector.specs.declared.sector.Owner.{Owner}
use Rattle.sl_trace.specs.contracts.effects.CallPartialEq.TheImpl.{ghosts as call}
use Rattle.sl_trace.specs.contracts.effects.EffectsPartialEq.TheImpl.{ghosts as effects}
use Rattle.sl_trace.specs.contracts.effects.EndPartialEq.TheImpl.{ghosts as end_of}
use Rattle.sl_trace.specs.contracts.effects.EntryPartialEq.TheImpl.{ghosts as entry}
use Rattle.sl_trace.specs.contracts.effects.GrantPartialEq.TheImpl.{ghosts as grant}
use Rattle.sl_trace.specs.contracts.effects.JobReplyPartialEq.TheImpl.{ghosts as job_reply}
use Rattle.sl_trace.specs.contracts.effects.JoinStepPartialEq.TheImpl.{ghosts as join_step}
use Rattle.sl_trace.specs.contracts.effects.LeaseRead.{enum as lease_read_enum}
use Rattle.sl_trace.specs.contracts.effects.LeaseReadPartialEq.TheImpl.{ghosts as lease_read}
use Rattle.sl_trace.specs.contracts.effects.LeaseStep.{enum as lease_step_enum}
use Rattle.sl_trace.specs.contracts.effects.LeaseStepPartialEq.TheImpl.{ghosts as lease_step}
use Rattle.sl_trace.specs.contracts.effects.MovePartialEq.TheImpl.{ghosts as move}
use Rattle.sl_trace.specs.contracts.effects.Op.{enum as op_enum}
use Rattle.sl_trace.specs.contracts.effects.OpPartialEq.TheImpl.{ghosts as op}
use Rattle.sl_trace.specs.contracts.effects.Purpose.{enum as purpose_enum}
use Rattle.sl_trace.specs.contracts.effects.PurposePartialEq.TheImpl.{ghosts as purpose}
use Rattle.sl_trace.specs.contracts.effects.SentPartialEq.TheImpl.{ghosts as sent}
use Rattle.sl_trace.specs.contracts.effects.StartPartialEq.TheImpl.{ghosts as start}
use Rattle.sl_trace.specs.contracts.effects.WorkPartialEq.TheImpl.{ghosts as work}
use Rattle.sl_trace.specs.contracts.input.InputPartialEq.TheImpl.{ghosts as input}
use Rattle.sl_trace.specs.contracts.reply.DeltaOwnerPartialEq.TheImpl.{ghosts as delta_owner}
use Rattle.sl_trace.specs.contracts.reply.DeltaVersionPartialEq.TheImpl.{ghosts as delta_version}
use Rattle.sl_trace.specs.contracts.reply.LimitedPartialEq.TheImpl.{ghosts as limited}
use Rattle.sl_trace.specs.contracts.reply.Reply.{enum as reply_enum}
use Rattle.sl_trace.specs.contracts.reply.ReplyPartialEq.TheImpl.{ghosts as reply}
use Rattle.sl_trace.specs.contracts.reply.SessionOfPartialEq.TheImpl.{ghosts as session_of}
use Rattle.sl_trace.specs.contracts.reply.StateOfPartialEq.TheImpl.{ghosts as state_of}
use Rattle.sl_trace.specs.declared.effects.Call.{Call}
use Rattle.sl_trace.specs.declared.effects.Effects.{Effects}
use Rattle.sl_trace.specs.declared.effects.End.{End}
use Rattle.sl_trace.specs.declared.effects.Entry.{Entry}
use Rattle.sl_trace.specs.declared.effects.Grant.{Grant}
use Rattle.sl_trace.specs.declared.effects.JobReply.{JobReply}
use Rattle.sl_trace.specs.declared.effects.JoinStep.{JoinStep}
use Rattle.sl_trace.specs.declared.effects.LeaseRead.{LeaseRead}
use Rattle.sl_trace.specs.declared.effects.LeaseStep.{LeaseStep}
use Rattle.sl_trace.specs.declared.effects.Move.{Move}
use Rattle.sl_trace.specs.declared.effects.Op.{Op}
use Rattle.sl_trace.specs.declared.effects.Purpose.{Purpose}
use Rattle.sl_trace.specs.declared.effects.Sent.{Sent}
use Rattle.sl_trace.specs.declared.effects.Start.{Start}
use Rattle.sl_trace.specs.declared.effects.Work.{Work}
use Rattle.sl_trace.specs.declared.input.Input.{Input}
use Rattle.sl_trace.specs.declared.reply.DeltaOwner.{DeltaOwner}
use Rattle.sl_trace.specs.declared.reply.DeltaVersion.{DeltaVersion}
use Rattle.sl_trace.specs.declared.reply.Limited.{Limited}
use Rattle.sl_trace.specs.declared.reply.Reply.{Reply}
use Rattle.sl_trace.specs.declared.reply.SessionOf.{SessionOf}
use Rattle.sl_trace.specs.declared.reply.StateOf.{StateOf}
use Rattle.std.proofs.Common.{rules}
use Rattle.std.proofs.lemmas.Bool.Decides.{Decides-eqb}
use Rattle.std.specs.Bool.{Decides}
use Rattle.std.specs.Cmp.Lexicographic.{bytes_decides, pointwise_decides}
use Rattle.std.specs.Prelude.{List, ℕ, ◌≡◌}

-- ---- calls

join_step_told : (a b : JoinStep) → Decides (join_step.eq a b) (a ≡ b)
join_step_told a b = search rules

work_told : (a b : Work) → Decides (work.eq a b) (a ≡ b)
work_told a b = search rules

lease_read_told : (a b : LeaseRead) → Decides (lease_read.eq a b) (a ≡ b)
lease_read_told a b = told lease_read_enum _ (search rules) a b

lease_step_told : (a b : LeaseStep) → Decides (lease_step.eq a b) (a ≡ b)
lease_step_told a b =
    told lease_step_enum _ (
      last bytes_decides,
      (
        none,
        (none, (last lease_read_told, (none, (none, (none, (none, (none, (none, (none, (none, tt)))))))))),
      ),
    )
    a b

pub purpose_told : (a b : Purpose) → Decides (purpose.eq a b) (a ≡ b)
purpose_told a b =
    told purpose_enum _ (
      and_then Decides-eqb (last join_step_told),
      (
        none,
        (
          none,
          (
            last Decides-eqb,
            (
              and_then work_told (last lease_step_told),
              (
                last Decides-eqb,
                (
                  and_then Decides-eqb (last (maybe Decides-eqb)),
                  (
                    none,
                    (
                      last Decides-eqb,
                      (last Decides-eqb, tt),
                    ),
                  ),
                ),
              ),
            ),
          ),
        ),
      ),
    )
    a b

pub op_told : (a b : Op) → Decides (op.eq a b) (a ≡ b)
op_told a b = told op_enum _ (last Decides-eqb, (last record_told, tt)) a b

abbrev call_parts : Call → ℕ × (ℕ × (Purpose × (List ℕ × (ℕ × (Op × Unit {0})))))
call_parts c = (c.number, (c.session, (c.purpose, (c.path, (c.offset, (c.op, tt))))))

call_one : (a b : Call) → call_parts a ≡ call_parts b → a ≡ b
call_one a b e = λ i. record { number = (e i).0; session = (e i).1.0; purpose = (e i).1.1.0; path = (e i).1.1.1.0; offset = (e i).1.1.1.1.0; op = (e i).1.1.1.1.1.0 }

pub call_told : (a b : Call) → Decides (call.eq a b) (a ≡ b)
call_told a b =
    through call_parts call_one
    (and_then Decides-eqb (and_then Decides-eqb (and_then purpose_told (and_then bytes_decides (and_then Decides-eqb (last op_told)))))) a b

-- ---- replies

owner_told : (a b : Owner) → Decides (owner.eq a b) (a ≡ b)
owner_told a b = search rules

state_of_told : (a b : StateOf) → Decides (state_of.eq a b) (a ≡ b)
state_of_told a b = search rules

session_of_told : (a b : SessionOf) → Decides (session_of.eq a b) (a ≡ b)
session_of_told a b = search rules

delta_version_told : (a b : DeltaVersion) → Decides (delta_version.eq a b) (a ≡ b)
delta_version_told a b = search rules

delta_owner_told : (a b : DeltaOwner) → Decides (delta_owner.eq a b) (a ≡ b)
delta_owner_told a b = search rules

limited_told : (a b : Limited) → Decides (limited.eq a b) (a ≡ b)
limited_told a b = search rules

pub reply_told : (a b : Reply) → Decides (reply.eq a b) (a ≡ b)
reply_told a b =
    told reply_enum _ (
      none,
      (
        last Decides-eqb,
        (
          last Decides-eqb,
          (
            and_then Decides-eqb (last Decides-eqb),
            (
              and_then Decides-eqb (and_then Decides-eqb (last bytes_decides)),
              (
                and_then Decides-eqb (last Decides-eqb),
                (
                  last (pointwise_decides state_of_told),
                  (
                    last (pointwise_decides session_of_told),
                    (
                      none,
                      (
                        none,
                        (
                          last Decides-eqb,
                          (
                            and_then delta_version_told (last (maybe delta_version_told)),
                            (
                              and_then delta_owner_told (last (maybe delta_owner_told)),
                              (
                                and_then Decides-eqb (last Decides-eqb),
                                (
                                  none,
                                  (
                                    none,
                                    (
                                      last Decides-eqb,
                                      (
                                        and_then Decides-eqb (last owner_told),
                                        (
                                          last owner_told,
                                          (
                                            and_then Decides-eqb (last Decides-eqb),
                                            (
                                              and_then Decides-eqb (last Decides-eqb),
                                              (
                                                and_then Decides-eqb (and_then Decides-eqb (last Decides-eqb)),
                                                (
                                                  last Decides-eqb,
                                                  (
                                                    last Decides-eqb,
                                                    (
                                                      last Decides-eqb,
                                                      (
                                                        none,
                                                        (
                                                          none,
                                                          (
                                                            none,
                                                            (
                                                              none,
                                                              (
                                                                last Decides-eqb,
                                                                (
                                                                  last limited_told,
                                                                  (
                                                                    and_then Decides-eqb (last (maybe Decides-eqb)),
                                                                    (
                                                                      and_then bytes_decides (and_then bytes_decides (last Decides-eqb)),
                                                                      (
                                                                        and_then bytes_decides (last Decides-eqb),
                                                                        (
                                                                          last Decides-eqb,
                                                                          (last Decides-eqb, tt),
                                                                        ),
                                                                      ),
                                                                    ),
                                                                  ),
                                                                ),
                                                              ),
                                                            ),
                                                          ),
                                                        ),
                                                      ),
                                                    ),
                                                  ),
                                                ),
                                              ),
                                            ),
                                          ),
                                        ),
                                      ),
                                    ),
                                  ),
                                ),
                              ),
                            ),
                          ),
                        ),
                      ),
                    ),
                  ),
                ),
              ),
            ),
          ),
        ),
      ),
    )
    a b

pub job_reply_told : (a b : JobReply) → Decides (job_reply.eq a b) (a ≡ b)
job_reply_told a b = search (reply_told, rules)

-- ---- a step

end_told : (a b : End) → Decides (end_of.eq a b) (a ≡ b)
end_told a b = search rules

sent_told : (a b : Sent) → Decides (sent.eq a b) (a ≡ b)
sent_told a b = search rules

move_told : (a b : Move) → Decides (move.eq a b) (a ≡ b)
move_told a b = search rules

grant_told : (a b : Grant) → Decides (grant.eq a b) (a ≡ b)
grant_told a b = search rules

start_told : (a b : Start) → Decides (start.eq a b) (a ≡ b)
start_told a b = search rules

pub input_told : (a b : Input) → Decides (input.eq a b) (a ≡ b)
input_told a b = search rules

abbrev effects_parts : Effects → List End × (List Sent × (List Move × (List Grant × (List Start × (List JobReply × (List Call × Unit {0}))))))
effects_parts c = (c.ends, (c.signals, (c.moves, (c.grants, (c.starts, (c.replies, (c.calls, tt)))))))

effects_one : (a b : Effects) → effects_parts a ≡ effects_parts b → a ≡ b
effects_one a b e = λ i. record { ends = (e i).0; signals = (e i).1.0; moves = (e i).1.1.0; grants = (e i).1.1.1.0; starts = (e i).1.1.1.1.0; replies = (e i).1.1.1.1.1.0; calls = (e i).1.1.1.1.1.1.0 }

pub effects_told : (a b : Effects) → Decides (effects.eq a b) (a ≡ b)
effects_told a b =
    through effects_parts effects_one
    (and_then (pointwise_decides end_told)
    (and_then (pointwise_decides sent_told)
    (and_then (pointwise_decides move_told)
    (and_then (pointwise_decides grant_told)
    (and_then (pointwise_decides start_told)
    (and_then (pointwise_decides job_reply_told) (last (pointwise_decides call_told)))))))) a b

pub entry_told : (a b : Entry) → Decides (entry.eq a b) (a ≡ b)
entry_told a b = search (input_told, effects_told, rules)
