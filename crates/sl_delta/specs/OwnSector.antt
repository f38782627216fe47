-- What a session keeps of its calls on its id's sector, how a call and an answer change it, and which lists of calls it stands for.
use Rattle.sl_area.specs.AreaSizes.{Sizes, layout_of}
use Rattle.sl_delta.specs.declared.answer.SectorAnswer.TheVariants.{Failed as FailedSector, Read as ReadSector, Written as WrittenSector}
use Rattle.sl_delta.specs.declared.answer.SectorAnswer.{SectorAnswer}
use Rattle.sl_host_state.specs.HeardInputs.{answered_at}
use Rattle.sl_host_state.specs.KeptState.{JoinState}
use Rattle.sl_host_state.specs.declared.kept_parts.JoinCall.{JoinCall}
use Rattle.sl_host_state.specs.NewHost.{new_joining}
use Rattle.sl_host_state.specs.HostStands.{JoinStands}
use Rattle.sl_sector.specs.Records.{Fits, IsDelta}
use Rattle.sl_sector.specs.declared.sector.DeltaRec.{DeltaRec}
use Rattle.sl_trace.specs.DeltaDecisions.{DeltaLease, join_step_of}
use Rattle.sl_trace.specs.Sessions.{delta_written, free_write, generation_in, is_delta_purpose, is_free_purpose, is_join_call, is_renewal, renewal_in, seq_in}
use Rattle.sl_trace.specs.declared.delta.DeltaKnown.{DeltaKnown}
use Rattle.sl_trace.specs.declared.session.Session.{Session}
use Rattle.sl_text.specs.Names.{is_name}
use Rattle.sl_time.specs.Times.{TimingNumbers}
use Rattle.sl_trace.specs.Traces.{Answered, Submitted, bytes_given}
use Rattle.sl_trace.specs.declared.effects.JoinStep.TheVariants.{ClaimWrite, FirstRead}
use Rattle.sl_trace.specs.declared.effects.JoinStep.{JoinStep}
use Rattle.sl_trace.specs.declared.effects.Purpose.{Purpose}
use Rattle.sl_trace.specs.declared.input.Answer.TheVariants.{Failed, Read, Written}
use Rattle.sl_trace.specs.declared.input.Answer.{Answer}
use Rattle.sl_words.specs.Bounds.{moments}
use Rattle.std.specs.Arc.{arc_value}
use Rattle.std.specs.List.{AllByRecursion}
use Rattle.std.specs.Option.{option_map_or}
use Rattle.std.specs.Prelude.{Bool, IfSome, IsTrue, List, None, Option, Some, cond, false, is_some, not, option_map, true, [], ℕ, ◌&&◌, ◌<◌, ◌||◌, ◌∷◌, ◌≡◌, ◌≤◌}

-- What is kept.
pub record OwnState : Type 0 where
  -- the times and sizes of the run, the daemon's name, the lockspace's, and the id
  pub timing : TimingNumbers
  pub sizes : Sizes
  pub host : List ℕ
  pub lockspace : List ℕ
  pub id : ℕ
  -- what the joining has read and claimed
  pub joining : JoinState
  -- those of the delta record that was submitted last
  pub generation : ℕ
  pub seq : ℕ
  -- the submission reading of the last renewal, answered or not
  pub renewed : ℕ
  -- a call on a delta sector is unanswered
  pub busy : Bool
  -- the free was submitted
  pub freed : Bool

-- The definitions' delta lease.
abbrev pub lease_of : OwnState → DeltaLease
lease_of o = record { timing = o.timing; layout = layout_of o.sizes; host = o.host; lockspace = o.lockspace; id = o.id }

-- What is known of the session where it is in recovery or not, and leaves for a job or not.
abbrev pub known_with : OwnState → Bool → Option ℕ → DeltaKnown
known_with o recovering leaving =
    record {
      generation = o.generation;
      seq = o.seq;
      renewed = o.renewed;
      busy = o.busy;
      recovering = recovering;
      leaving = leaving;
      freed = o.freed;
    }

-- Nothing was called yet: this generation and seq come before the first record, this reading before the first renewal.
abbrev pub without_calls : TimingNumbers → Sizes → List ℕ → List ℕ → ℕ → ℕ → ℕ → OwnState
without_calls tm z host lockspace id number renewed =
    record {
      timing = tm;
      sizes = z;
      host = host;
      lockspace = lockspace;
      id = id;
      joining = new_joining;
      generation = number;
      seq = number;
      renewed = renewed;
      busy = false;
      freed = false;
    }

-- A record that a session writes: it names a generation.
pub record IsOwnRecord (d : DeltaRec) : Type 0 where
  pub rules : IsDelta d
  pub claimed : 1 ≤ d.generation

-- The readings of a call are moments.
pub record HasMoments (n : JoinCall) : Type 0 where
  pub submission : n.made < moments
  pub answer : IfSome n.answered (λ t. t < moments)

-- What is kept is within bounds: what was claimed is a record, numbers fit records, readings are moments.
pub record IsWithin (z : Sizes) (host lockspace : List ℕ) (id : ℕ) (claim : Option DeltaRec) (since : Option ℕ) (newest : Option JoinCall) (generation seq renewed : ℕ) : Type 0 where
  pub place : (1 ≤ id) × (id ≤ z.hosts)
  pub named : IsTrue (is_name host) × IsTrue (is_name lockspace)
  pub claims : IfSome claim IsOwnRecord
  pub watched : IfSome since (λ t. t < moments)
  pub moved : IfSome newest HasMoments
  pub numbers : Fits generation × Fits seq
  pub renewal : renewed < moments

-- ---- a call and an answer

-- A call that is submitted at this reading.
abbrev pub call_made : ℕ → JoinStep → JoinCall
call_made now step = record { step = step; made = now; answered = None }

-- The newest call of a joining, where one for this purpose is one of its steps.
abbrev pub newest_made : Purpose → ℕ → Option JoinCall
newest_made p now = option_map (call_made now) (join_step_of p)

-- What a joining keeps after a call for this purpose, which writes this record, if any, and is submitted at this reading.
abbrev pub joining_after : Purpose → Option DeltaRec → ℕ → JoinState → JoinState
joining_after p d now j =
    record {
      watched = cond (is_join_call FirstRead p) None j.watched;
      since = cond (is_join_call FirstRead p) None j.since;
      claim = cond (is_join_call ClaimWrite p) d j.claim;
      newest = newest_made p now;
    }

-- One more call of the session.
abbrev pub after_call : Purpose → Option DeltaRec → ℕ → OwnState → OwnState
after_call p d now o =
    record o {
      joining = joining_after p d now o.joining;
      generation = option_map_or (λ d. d.generation) d o.generation;
      seq = option_map_or (λ d. d.seq) d o.seq;
      renewed = cond (is_renewal p) now o.renewed;
      busy = is_delta_purpose p || o.busy;
      freed = is_free_purpose p || o.freed;
    }

-- The newest call after an answer at this reading, to a step of the joining or to another call.
abbrev pub newest_told : Bool → ℕ → Option JoinCall → Option JoinCall
newest_told joins now newest = cond joins (option_map (answered_at now) newest) newest

-- What a joining keeps after an answer at this reading to a call for this purpose.
abbrev pub joining_told : Purpose → Answer → ℕ → JoinState → JoinState
joining_told p a now j =
    record j {
      watched = cond (is_join_call FirstRead p) (bytes_given a) j.watched;
      since = cond (is_join_call FirstRead p) (Some now) j.since;
      newest = newest_told (is_some (join_step_of p)) now j.newest;
    }

-- An answer to a call of the session; of its calls on delta sectors one is unanswered at a time.
abbrev pub after_answer : Purpose → Answer → ℕ → OwnState → OwnState
after_answer p a now o = record o { joining = joining_told p a now o.joining; busy = not (is_delta_purpose p) && o.busy }

-- What each answer changes.
abbrev pub heard : ℕ → Bool → Bool → OwnState → OwnState
heard now on_delta joins o =
    let j : JoinState = o.joining in
    record o { joining = record j { newest = newest_told joins now j.newest }; busy = not on_delta && o.busy }

-- The definitions' answer.
abbrev pub answer_in : SectorAnswer → Answer
answer_in (ReadSector image) = Read (arc_value image)
answer_in WrittenSector = Written
answer_in FailedSector = Failed

-- ---- the lists of calls

-- All of these are answered.
abbrev pub AllAnswered : List Submitted → Type 0
AllAnswered ms = AllByRecursion (λ m. IsTrue (is_some m.answer)) ms

-- At most the newest has no answer: this tells whether it has none.
abbrev pub IsBusy : Bool → List Submitted → Type 0
IsBusy false ms = AllAnswered ms
IsBusy true [] = ⊥
IsBusy true (m ∷ ms) = (m.answer ≡ None) × AllAnswered ms

-- What is kept stands for the session's calls on delta sectors, the newest first: each part is the answer to one question to them.
pub record OwnStands (s : Session) (o : OwnState) (ms : List Submitted) : Type 0 where
  pub joining : JoinStands o.joining ms
  pub generation : generation_in s ms ≡ o.generation
  pub seq : seq_in s ms ≡ o.seq
  pub renewed : renewal_in s ms ≡ o.renewed
  pub busy : IsBusy o.busy ms
  pub freed : is_some (free_write ms) ≡ o.freed

-- The call is one on a delta sector for this purpose, which writes this record, if any, and is submitted at this reading.
pub record IsMade (p : Purpose) (d : Option DeltaRec) (now : ℕ) (m : Submitted) : Type 0 where
  pub purpose : m.call.purpose ≡ p
  pub delta : IsTrue (is_delta_purpose p)
  pub written : delta_written m ≡ d
  pub reading : m.reading ≡ now
  pub unanswered : m.answer ≡ None

-- This is an answer at this reading to the call, which had none.
pub record IsTold (p : Purpose) (answer : Answer) (now : ℕ) (m : Submitted) (a : Answered) : Type 0 where
  pub purpose : m.call.purpose ≡ p
  pub delta : IsTrue (is_delta_purpose p)
  pub unanswered : m.answer ≡ None
  pub told : a.answer ≡ answer
  pub reading : a.reading ≡ now
