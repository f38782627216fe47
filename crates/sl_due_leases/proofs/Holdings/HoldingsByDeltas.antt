-- What sessions do for their delta leases keeps the facts of holdings: a joining holds nothing, a renewal and a free keep the generation,
-- and who leaves holds nothing any more.
use Rattle.sl_due_facts.specs.Acts.Acts.{Has}
use Rattle.sl_due_facts.specs.Acts.TraceSoFar.{entry_of}
use Rattle.sl_due.specs.CarriedDelta.{carry_delta, for_joining, move_connection, read_own_sector, register, survey, write_own_sector}
use Rattle.sl_due.specs.DueTimeOuts.{refuse, remove_connection, remove_of_refused}
use Rattle.sl_due.specs.Steps.{Step, add_move, add_reply, seen, when, with_some}
use Rattle.sl_due_leases.proofs.Holdings.HoldersSpared.{IsJoining, NoneHeldOf, joined_some, joining, none_of_joining, removal_held}
use Rattle.sl_due_leases.proofs.Holdings.HoldingsByCalls.{CallSpares, call_added, call_held}
use Rattle.sl_due_leases.proofs.Holdings.HoldingsByEffects.{HoldsAt, SameCalls, later_same, move_held, reply_held}
use Rattle.sl_due_facts.proofs.Jobs.RepliesComeAfter.{IsLateDelta}
use Rattle.sl_trace.specs.Leases.{is_lease_call, is_on}
use Rattle.sl_words.proofs.Lists.{find_inside, got_inside}
use Rattle.sl_sector.specs.Bitmaps.{no_bits}
use Rattle.sl_sector.specs.declared.sector.DeltaRec.{DeltaRec}
use Rattle.sl_sector.specs.declared.sector.DeltaState.TheVariants.{Free, Live}
use Rattle.sl_sector.specs.declared.sector.Rec.TheVariants.{DeltaIs}
use Rattle.sl_trace.specs.DeltaDecisions.{delta_known, delta_of_session, delta_record, is_renewal_due, next_after_free, next_after_renewal, next_free, next_renewal, own_offset}
use Rattle.sl_trace.specs.Sessions.{calls_of, delta_written, free_write, generation_of, given_number, has_open_write, is_joined, last_delta, last_seq, leaving_job, refused_after, session_numbered, session_of_job, sessions}
use Rattle.sl_trace.specs.declared.delta.DeltaNext.TheVariants.{Disconnect, EndLeaving, Join, MoveConnection, Nothing, ReadOwn, RefuseJoin, RegisterAndRead, WriteClaim, WriteFirst, WriteFree, WriteRenewal}
use Rattle.sl_trace.specs.declared.delta.DeltaNext.{DeltaNext}
use Rattle.sl_trace.specs.declared.session.Session.{Session}
use Rattle.sl_due_facts.specs.Facts.HeardCall.{heard_by}
use Rattle.sl_due_facts.specs.Facts.SessionFacts.{NameFacts}
use Rattle.sl_time.specs.Times.{fail}
use Rattle.sl_trace.specs.Traces.{Job, holdings, is_before_input, is_running, new_call, spot_of_grant}
use Rattle.sl_trace.specs.declared.effects.Call.{Call}
use Rattle.sl_trace.specs.declared.effects.Grant.{Grant}
use Rattle.sl_trace.specs.declared.effects.JoinStep.TheVariants.{ClaimWrite, FirstRenewal}
use Rattle.sl_trace.specs.declared.effects.Move.TheVariants.{Register, Renew}
use Rattle.sl_trace.specs.declared.effects.Op.TheVariants.{ReadSectors, WriteRecord}
use Rattle.sl_trace.specs.declared.effects.Purpose.TheVariants.{Joining, Leaving, Renewal, Survey}
use Rattle.sl_trace.specs.declared.input.Answer.TheVariants.{Failed, Read, Written}
use Rattle.sl_trace.specs.declared.input.Answer.{Answer}
use Rattle.sl_trace.specs.declared.reply.Reply.TheVariants.{Done, Generation, IoFault}
use Rattle.sl_trace.specs.declared.reply.Reply.{Reply}
use Rattle.sl_run_law.proofs.Leases.NumberLaws.{number_is_place}
use Rattle.sl_words.proofs.CaseLaws.{not_both, one_value}
use Rattle.sl_words.proofs.WordLaws.{some_is_true}
use Rattle.sl_words.specs.Words.{some_is}
use Rattle.std.proofs.Common.{ap, refl, subst, sym, ◌∙◌}
use Rattle.std.proofs.lemmas.Bool.{eqb-true}
use Rattle.std.specs.Option.{option_map_or}
use Rattle.std.specs.Prelude.{Bool, Contains, List, None, Option, Some, false, is_some, length, not, option_map, true, ℕ, ◌&&◌, ◌+◌, ◌==◌, ◌≡◌}

-- ---- calls that spare holders

-- A holder's number names it.
pub same_session : (x : Step) (n : ℕ) (s k : Session) → session_numbered x.setting (seen x) n ≡ Some k → Has x s → (s.number == k.number) ≡ true → s ≡ k
same_session x n s k its has same =
    let number : s.number ≡ n = eqb-true s.number k.number same ∙ number_is_place x.setting (seen x) n k its in
    one_value s k (session_numbered x.setting (seen x) n) (subst (λ j. session_numbered x.setting (seen x) j ≡ Some s) number has) its

-- The session holds nothing.
abbrev pub HoldsNothing : Step → Session → Type 0
HoldsNothing x s = (g : Grant) (k : Session) → Contains (holdings (seen x)) g → session_numbered x.setting (seen x) g.session ≡ Some k → (s.number == k.number) ≡ true → ⊥

pub nothing_spared : (x : Step) (s : Session) (c : Call) → c.session ≡ s.number → HoldsNothing x s → CallSpares x c
nothing_spared x s c mine none =
    record {
      generation = λ g k there its same. absurd (none g k there its (subst (λ n. (n == k.number) ≡ true) mine same));
      beside = λ g k there its same exclusive here stands. absurd (none g k there its (subst (λ n. (n == k.number) ≡ true) mine same));
    }

pub joining_holds_nothing : (x : Step) (s : Session) → HoldsAt x → Has x s → IsJoining (seen x) s → HoldsNothing x s
joining_holds_nothing x s h has j g k there its same =
    let o = h.owned g there in
    let one : s ≡ o.0 = same_session x g.session s k its has same ∙ one_value k o.0 (session_numbered x.setting (seen x) g.session) its o.1 in
    joined_some (seen x) s (subst (λ z. is_joined (seen x) z ≡ true) (sym one) o.2) j.unjoined

-- No lease's call, and no write of a delta record.
pub plain_spared : (x : Step) (c : Call) → is_lease_call (new_call (length x.past) x.reading c) ≡ false → delta_written (new_call (length x.past) x.reading c) ≡ None → CallSpares x c
plain_spared x c other none =
    record {
      generation = λ g k there its same. ap (λ o. option_map_or (λ (d : DeltaRec). d.generation) (elim o as (λ z. Option DeltaRec) [ Some d ↦ Some d | None ↦ last_delta (calls_of (seen x) k) ]) (given_number k)) none;
      beside = λ g k there its same exclusive here stands.
          absurd (not_both (is_lease_call (new_call (length x.past) x.reading c) && is_on x.setting.layout (spot_of_grant g) c) here
          (ap (λ b. b && is_on x.setting.layout (spot_of_grant g) c) other));
    }

-- A write of a delta record of the session's generation.
pub same_generation_spared : (x : Step) (s : Session) (c : Call) (d : DeltaRec) → Has x s → c.session ≡ s.number → is_lease_call (new_call (length x.past) x.reading c) ≡ false
    → delta_written (new_call (length x.past) x.reading c) ≡ Some d → d.generation ≡ generation_of (seen x) s → CallSpares x c
same_generation_spared x s c d has mine other writes same =
    record {
      generation = λ g k there its is.
          let one : s ≡ k = same_session x g.session s k its has (subst (λ n. (n == k.number) ≡ true) mine is) in
          ap (λ o. option_map_or (λ (e : DeltaRec). e.generation) (elim o as (λ z. Option DeltaRec) [ Some e ↦ Some e | None ↦ last_delta (calls_of (seen x) k) ]) (given_number k)) writes
          ∙ (same ∙ ap (λ z. generation_of (seen x) z) one);
      beside = λ g k there its is exclusive here stands.
          absurd (not_both (is_lease_call (new_call (length x.past) x.reading c) && is_on x.setting.layout (spot_of_grant g) c) here
          (ap (λ b. b && is_on x.setting.layout (spot_of_grant g) c) other));
    }

-- ---- refusals of joinings

pub refused_held : (x : Step) (j : ℕ) (r : Reply) → HoldsAt x → NameFacts x.setting (seen x) (heard_by x.input) → is_running (seen x) j ≡ true → SameCalls x.past (entry_of x) (record { job = j; reply = r })
    → HoldsAt (refuse j r x)
unfolding refuse
refused_held x j r h names runs same = by (session_of_job x.setting (seen x) j) refl where
  y : Step
  y = add_reply j r x

  there : HoldsAt y
  there = reply_held x j r same h

  removed : (s : Session) (b : Bool) → NoneHeldOf y s.lockspace → HoldsAt (when b (remove_connection s.lockspace) y)
  removed s true none = removal_held y s.lockspace none there
  removed s false none = there

  by : (o : Option Session) → session_of_job x.setting (seen x) j ≡ o → HoldsAt (with_some o remove_of_refused y)
  by None is = there
  by (Some s) is =
      let f = find_inside (λ (z : Session). some_is (λ n. n == j) z.job) (sessions x.setting (seen x)) s is in
      let v = some_is_true (λ n. n == j) s.job f.1 in
      let its : s.job ≡ Some j = v.1 ∙ ap (λ n. Some n) (eqb-true v.0 j v.2) in
      removed s (is_some (refused_after (seen y) s) && not (has_open_write (seen y) s)) (none_of_joining x s h names f.0 (joining (seen x) s j its runs))

-- ---- what a joining decided

renew_held : (x : Step) (name : List ℕ) (expiry : ℕ) → HoldsAt x → HoldsAt (add_move (Renew name expiry) x)
renew_held x name expiry h = move_held x (Renew name expiry) (λ g there. refl) h

surveyed_held : (x : Step) (s : Session) → HoldsAt x → HoldsAt (survey s x)
surveyed_held x s h =
    call_held x s.number s.path Survey s.offset (ReadSectors x.setting.layout.hosts) (plain_spared x (call_added s.number s.path Survey s.offset (ReadSectors x.setting.layout.hosts) x) refl refl) h

for_job : (s : Session) (j : ℕ) (f : ℕ → Step → Step) (x : Step) → s.job ≡ Some j → HoldsAt (f j x) → HoldsAt (for_joining s f x)
for_job s j f x its h = subst (λ o. HoldsAt (with_some o f x)) (sym its) h

pub joins_held : (x : Step) (s : Session) (n : DeltaNext) (j : ℕ) → HoldsAt x → NameFacts x.setting (seen x) (heard_by x.input) → Has x s → s.job ≡ Some j → is_running (seen x) j ≡ true
    → ((r : Reply) → n ≡ RefuseJoin r → SameCalls x.past (entry_of x) (record { job = j; reply = r })) → IsLateDelta n → HoldsAt (carry_delta s n x)
unfolding carry_delta
joins_held x s Nothing j h names has its runs same only = h
joins_held x s (RefuseJoin r) j h names has its runs same only = for_job s j (λ k. refuse k r) x its (refused_held x j r h names runs (same r refl))
joins_held x s (ReadOwn step) j h names has its runs same only =
    for_job s j (λ k. read_own_sector s (Joining k step)) x its
    (call_held x s.number s.path (Joining j step) (own_offset x.setting s) (ReadSectors 1) (plain_spared x (call_added s.number s.path (Joining j step) (own_offset x.setting s) (ReadSectors 1) x) refl refl) h)
joins_held x s (RegisterAndRead step) j h names has its runs same only =
    let y : Step = register s x in
    for_job s j (λ k z. read_own_sector s (Joining k step) (register s z)) x its
    (call_held y s.number s.path (Joining j step) (own_offset y.setting s) (ReadSectors 1) (plain_spared y (call_added s.number s.path (Joining j step) (own_offset y.setting s) (ReadSectors 1) y) refl refl)
    (move_held x (Register s.lockspace (x.reading + fail x.setting.timing)) (λ g there. refl) h))
joins_held x s (WriteClaim d) j h names has its runs same only =
    let c : Call = call_added s.number s.path (Joining j ClaimWrite) (own_offset x.setting s) (WriteRecord (DeltaIs d)) x in
    for_job s j (λ k. write_own_sector s (Joining k ClaimWrite) d) x its
    (call_held x s.number s.path (Joining j ClaimWrite) (own_offset x.setting s) (WriteRecord (DeltaIs d)) (nothing_spared x s c refl (joining_holds_nothing x s h has (joining (seen x) s j its runs))) h)
joins_held x s Disconnect j h names has its runs same only =
    removal_held x s.lockspace (none_of_joining x s h names (got_inside (sessions x.setting (seen x)) s.number s has) (joining (seen x) s j its runs)) h
joins_held x s (WriteFirst d) j h names has its runs same only =
    let c : Call = call_added s.number s.path (Joining j FirstRenewal) (own_offset x.setting s) (WriteRecord (DeltaIs d)) x in
    for_job s j (λ k. write_own_sector s (Joining k FirstRenewal) d) x its
    (call_held x s.number s.path (Joining j FirstRenewal) (own_offset x.setting s) (WriteRecord (DeltaIs d)) (nothing_spared x s c refl (joining_holds_nothing x s h has (joining (seen x) s j its runs))) h)
joins_held x s (Join generation renewed) j h names has its runs same only =
    let y : Step = move_connection s renewed x in
    for_job s j (λ k z. survey s (add_reply k (Generation generation) (move_connection s renewed z))) x its
    (surveyed_held (add_reply j (Generation generation) y) s
    (reply_held y j (Generation generation) (later_same y.past (entry_of y) (record { job = j; reply = Generation generation }) refl) (renew_held x s.lockspace (renewed + fail x.setting.timing) h)))
joins_held x s (MoveConnection renewed) j h names has its runs same only = surveyed_held (move_connection s renewed x) s (renew_held x s.lockspace (renewed + fail x.setting.timing) h)
joins_held x s (WriteRenewal d) j h names has its runs same only =
    call_held x s.number s.path Renewal (own_offset x.setting s) (WriteRecord (DeltaIs d))
    (nothing_spared x s (call_added s.number s.path Renewal (own_offset x.setting s) (WriteRecord (DeltaIs d)) x) refl (joining_holds_nothing x s h has (joining (seen x) s j its runs))) h
joins_held x s (WriteFree k d) j h names has its runs same only = absurd only
joins_held x s (EndLeaving k r) j h names has its runs same only = absurd only

-- ---- what a joined session decided

pub renewed_held : (x : Step) (s : Session) (recovering : Bool) (made : ℕ) (answer : Answer) → HoldsAt x → HoldsAt (carry_delta s (next_after_renewal recovering made answer) x)
unfolding carry_delta
renewed_held x s recovering made (Read bytes) h = h
renewed_held x s recovering made Failed h = h
renewed_held x s true made Written h = h
renewed_held x s false made Written h = surveyed_held (move_connection s made x) s (renew_held x s.lockspace (made + fail x.setting.timing) h)

pub renews_held : (x : Step) (s : Session) (bits : List ℕ) → Has x s → HoldsAt x → HoldsAt (carry_delta s (next_renewal (delta_of_session x.setting s) x.reading (delta_known x.setting (seen x) s) bits) x)
unfolding carry_delta next_renewal
renews_held x s bits has h = by (is_renewal_due (delta_of_session x.setting s) x.reading (delta_known x.setting (seen x) s)) where
  d : DeltaRec
  d = delta_record (delta_of_session x.setting s) Live (generation_of (seen x) s) (last_seq (seen x) s + 1) x.reading bits

  by : (b : Bool) → HoldsAt (carry_delta s (elim b as (λ z. DeltaNext) [ false ↦ Nothing | true ↦ WriteRenewal d ]) x)
  by false = h
  by true =
      call_held x s.number s.path Renewal (own_offset x.setting s) (WriteRecord (DeltaIs d))
      (same_generation_spared x s (call_added s.number s.path Renewal (own_offset x.setting s) (WriteRecord (DeltaIs d)) x) d has refl refl refl refl) h

pub frees_held : (x : Step) (s : Session) → Has x s → HoldsAt x → HoldsAt (carry_delta s (next_free (delta_of_session x.setting s) x.reading (delta_known x.setting (seen x) s)) x)
unfolding carry_delta
frees_held x s has h = by (option_map (λ (j : Job). j.number) (leaving_job x.setting (seen x) s)) (is_some (free_write (calls_of (seen x) s))) where
  d : DeltaRec
  d = delta_record (delta_of_session x.setting s) Free (generation_of (seen x) s) (last_seq (seen x) s + 1) x.reading no_bits

  by : (o : Option ℕ) (b : Bool) → HoldsAt (carry_delta s (elim o as (λ z. DeltaNext) [ None ↦ Nothing | Some j ↦ elim b as (λ z. DeltaNext) [ true ↦ Nothing | false ↦ WriteFree j d ] ]) x)
  by None b = h
  by (Some j) true = h
  by (Some j) false =
      call_held x s.number s.path (Leaving j) (own_offset x.setting s) (WriteRecord (DeltaIs d))
      (same_generation_spared x s (call_added s.number s.path (Leaving j) (own_offset x.setting s) (WriteRecord (DeltaIs d)) x) d has refl refl refl refl) h

-- A leaving ends.
pub freed_held : (x : Step) (s : Session) (j call : ℕ) (answer : Answer) → NoneHeldOf x s.lockspace → HoldsAt x → HoldsAt (carry_delta s (next_after_free j call answer) x)
unfolding carry_delta
freed_held x s j call answer none h = by answer where
  y : Step
  y = remove_connection s.lockspace x

  there : HoldsAt y
  there = removal_held x s.lockspace none h

  told : (r : Reply) (b : Bool) → is_before_input r ≡ false → HoldsAt (when b (add_reply j r) y)
  told r true later = reply_held y j r (later_same y.past (entry_of y) (record { job = j; reply = r }) later) there
  told r false later = there

  by : (a : Answer) → HoldsAt (carry_delta s (next_after_free j call a) x)
  by (Read bytes) = h
  by Written = told Done (is_running (seen x) j) refl
  by Failed = told (IoFault call) (is_running (seen x) j) refl
