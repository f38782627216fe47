-- One more effect of an entry.
use Rattle.sl_due_facts.specs.AddedEffects.CallIsLawful.{CallIsLawful}
use Rattle.sl_sector.specs.Records.{IsRecord}
use Rattle.sl_sector.specs.declared.sector.Rec.{Rec}
use Rattle.sl_trace.specs.Sessions.{is_join_call, is_joined, session_numbered}
use Rattle.sl_trace.specs.declared.session.Session.{Session}
use Rattle.sl_trace.specs.WatchdogConnections.{unregisters}
use Rattle.sl_trace.specs.Traces.{Setting, Trace, new_call, next_call, record_of}
use Rattle.sl_trace.specs.declared.effects.Call.{Call}
use Rattle.sl_trace.specs.declared.effects.Effects.{Effects}
use Rattle.sl_trace.specs.declared.effects.End.{End}
use Rattle.sl_trace.specs.declared.effects.Entry.{Entry}
use Rattle.sl_trace.specs.declared.effects.Grant.{Grant}
use Rattle.sl_trace.specs.declared.effects.JobReply.{JobReply}
use Rattle.sl_trace.specs.declared.effects.JoinStep.TheVariants.{FirstRead, FirstRenewal}
use Rattle.sl_trace.specs.declared.effects.Move.{Move}
use Rattle.sl_trace.specs.declared.effects.Start.{Start}
use Rattle.sl_trace.specs.declared.reply.Reply.TheVariants.{Value}
use Rattle.std.specs.List.{list_any}
use Rattle.std.specs.Prelude.{Contains, List, Some, false, length, true, [], ℕ, ◌++◌, ◌∷◌, ◌≡◌}

-- The entry with one more end.
abbrev pub with_end : End → Entry → Entry
with_end x e = let fx : Effects = e.effects in record e { effects = record fx { ends = fx.ends ++ x ∷ [] } }

-- The entry with one more grant.
abbrev pub with_grant : Grant → Entry → Entry
with_grant g e = let fx : Effects = e.effects in record e { effects = record fx { grants = fx.grants ++ g ∷ [] } }

-- The entry with one more start.
abbrev pub with_start : Start → Entry → Entry
with_start x e = let fx : Effects = e.effects in record e { effects = record fx { starts = fx.starts ++ x ∷ [] } }

-- The entry with one more move.
abbrev pub with_move : Move → Entry → Entry
with_move m e = let fx : Effects = e.effects in record e { effects = record fx { moves = fx.moves ++ m ∷ [] } }

-- The entry with one more reply.
abbrev pub with_reply : JobReply → Entry → Entry
with_reply a e = let fx : Effects = e.effects in record e { effects = record fx { replies = fx.replies ++ a ∷ [] } }

-- A call that comes next: of a joined session, no step of a joining, lawful as it stands, in an entry that grants nothing and tells no
-- value.
pub record JoinedCall (st : Setting) (past : Trace) (e : Entry) (c : Call) (s : Session) : Type 0 where
  pub its : session_numbered st (e ∷ past) c.session ≡ Some s
  pub joined : is_joined (e ∷ past) s ≡ true
  -- nothing of the session has been removed in this entry
  pub stays : list_any (unregisters s.lockspace) e.effects.moves ≡ false
  pub no_look : is_join_call FirstRead c.purpose ≡ false
  pub no_first : is_join_call FirstRenewal c.purpose ≡ false
  pub numbered : c.number ≡ next_call st (e ∷ past)
  pub lawful : CallIsLawful st (e ∷ past) s (new_call (length past) e.reading c)
  pub spelled : (w : Rec) → record_of c.op ≡ Some w → IsRecord w
  -- what was granted, or told of a value, could rest on what the session had written so far
  pub ungranted : e.effects.grants ≡ []
  pub untold : (a : JobReply) (lver seq : ℕ) (bytes : List ℕ) → Contains e.effects.replies a → a.reply ≡ Value lver seq bytes → ⊥
