-- Acts of joinings, frees and lines keep what is known of delta records.
use Rattle.sl_due_facts.proofs.Acts.AddedAtEnd.{contains_at}
use Rattle.sl_due_facts.proofs.Acts.LoopsKeep.{with_some_keeps}
use Rattle.sl_due_facts.specs.Acts.Acts.{Has}
use Rattle.sl_due_facts.specs.Acts.TraceSoFar.{entry_of}
use Rattle.sl_due.specs.CarriedDelta.{carry_delta, move_connection, read_own_sector, register, survey, write_own_sector}
use Rattle.sl_due.specs.Steps.{Step, add_call_of, add_move, add_reply, seen}
use Rattle.sl_due_facts.proofs.Jobs.CallsStay.{calls_stay, late_join}
use Rattle.sl_due_facts.proofs.Jobs.EffectsAreAllowed.{Allows, delta}
use Rattle.sl_due_facts.proofs.Jobs.NearlyPlainActs.{AnyMove, AnyStart}
use Rattle.sl_due_facts.proofs.Jobs.RepliesComeAfter.{IsLateDelta}
use Rattle.sl_due_facts.proofs.Jobs.SessionsArePresent.{session_has}
use Rattle.sl_due_facts.proofs.Jobs.SessionsHaveJobs.{one_session}
use Rattle.sl_due_facts.proofs.Jobs.SessionsStand.{joined_then, leaving_joined, no_members, reply_joined, reply_leaving}
use Rattle.sl_due_facts.proofs.AddedEffects.CallsGrow.{mine_more, others_stay, same_sessions}
use Rattle.sl_words.proofs.Lists.{contains_none, got_inside, kept, kept_inside}
use Rattle.sl_words.proofs.Numbers.{number_itself}
use Rattle.sl_sector.specs.declared.sector.Rec.TheVariants.{DeltaIs}
use Rattle.sl_due_facts.proofs.Sessions.DeltaConditions.{freed_before, part_of, plain_reply, unjoined_unfreed}
use Rattle.sl_due_facts.proofs.Sessions.DeltaGrow.{DeltaCall, DeltaPart, DeltaReply, DeltaSince, FreedBefore, call_delta, leaving_goes_on, reply_joins_none}
use Rattle.sl_due_facts.proofs.Sessions.DeltaIsAllowed.{delta_allows, delta_at}
use Rattle.sl_due_facts.proofs.Sessions.HoldingsOfSessions.{HeldBy}
use Rattle.sl_due_facts.proofs.Sessions.JoinedNumbers.{HasNumbers, JoinsNot}
use Rattle.sl_due_facts.proofs.Sessions.NamesAtEnd.{running_unjoined}
use Rattle.sl_due_facts.specs.Sessions.SessionLaws.{HasDeltaFacts}
use Rattle.sl_trace.specs.DeltaDecisions.{own_offset}
use Rattle.sl_trace.specs.Sessions.{calls_of, free_write, generation_in, holdings_of, is_call_of, is_free_purpose, is_join_call, is_join_done, is_joined, joined_after, leaving_job, removed_after, seq_in, session_numbered, sessions}
use Rattle.sl_trace.specs.declared.delta.DeltaNext.{DeltaNext}
use Rattle.sl_trace.specs.declared.delta.DeltaNext.TheVariants.{Disconnect, EndLeaving, Join, MoveConnection, Nothing, ReadOwn, RefuseJoin, RegisterAndRead, WriteClaim, WriteFirst, WriteFree, WriteRenewal}
use Rattle.sl_trace.specs.declared.session.Session.{Session}
use Rattle.sl_due_facts.specs.Facts.SessionFacts.{DeltaFacts}
use Rattle.sl_due_facts.specs.Facts.AllFacts.{Whole}
use Rattle.sl_time.specs.Times.{fail}
use Rattle.sl_trace.specs.Traces.{Replied, Submitted, holdings, is_running, line_in, new_call, next_call, reply_to, submitted}
use Rattle.sl_trace.specs.declared.effects.Call.{Call}
use Rattle.sl_trace.specs.declared.effects.Grant.{Grant}
use Rattle.sl_trace.specs.declared.effects.JoinStep.TheVariants.{ClaimWrite, FirstRead, FirstRenewal}
use Rattle.sl_trace.specs.declared.effects.Move.{Move}
use Rattle.sl_trace.specs.declared.effects.Move.TheVariants.{Register, Renew}
use Rattle.sl_trace.specs.declared.effects.Op.{Op}
use Rattle.sl_trace.specs.declared.effects.Op.TheVariants.{ReadSectors, WriteRecord}
use Rattle.sl_trace.specs.declared.effects.Purpose.{Purpose}
use Rattle.sl_trace.specs.declared.effects.Purpose.TheVariants.{Joining, Renewal, Survey}
use Rattle.sl_trace.specs.declared.reply.Reply.TheVariants.{Generation}
use Rattle.sl_run_law.proofs.Leases.NumberLaws.{number_is_place}
use Rattle.sl_words.proofs.CaseLaws.{false_is_true, none_some, not_both, one_value, some_value}
use Rattle.sl_words.proofs.WordLaws.{and_true}
use Rattle.sl_words.specs.Bounds.{is_number}
use Rattle.sl_words.specs.Words.{choose}
use Rattle.std.proofs.Common.{ap, ap₂, arith, inl, inr, refl, subst, sym, ◌∙◌}
use Rattle.std.proofs.lemmas.Bool.{eqb-true}
use Rattle.std.proofs.lemmas.Option.{slice_get_within}
use Rattle.std.specs.Prelude.{Bool, Contains, IsSome, IsTrue, List, None, Option, Some, cond, false, filter, is_none, is_some, length, option_and_then, slice_get, true, ℕ, ◌&&◌, ◌+◌, ◌<◌, ◌==◌, ◌≡◌, ◌≤◌, ◌⊎◌}

-- ---- which sessions had written their free

abbrev pub FreedSame : Step → Step → Type 0
FreedSame x y = (s : Session) (m : Submitted) → Contains (sessions y.setting (seen y)) s → free_write (calls_of (seen y) s) ≡ Some m → Contains (sessions x.setting (seen x)) s × (free_write (calls_of (seen x) s) ≡ Some m)

abbrev pub DeltaDone : Step → Step → Type 0
DeltaDone x y = DeltaPart y.setting (seen y) × FreedSame x y

freed_call : (y : Step) (s : Session) (path : List ℕ) (p : Purpose) (o : ℕ) (op : Op) → Has y s → is_join_call FirstRead p ≡ false → is_free_purpose p ≡ false → free_write (calls_of (seen y) s) ≡ None → FreedSame y (add_call_of s.number path p o op y)
freed_call y s path p o op has no_look no_free unfreed z m there is = (old, by (s.number == z.number) refl) where
  made : Call
  made = record { number = next_call y.setting (seen y); session = s.number; purpose = p; path = path; offset = o; op = op }

  new : Submitted
  new = new_call (length y.past) y.reading made

  old : Contains (sessions y.setting (seen y)) z
  old = subst (λ ss. Contains ss z) (same_sessions y.setting (entry_of y) y.past made no_look) there

  by : (b : Bool) → (s.number == z.number) ≡ b → free_write (calls_of (seen y) z) ≡ Some m
  by false other = sym (ap (λ ms. free_write ms) (others_stay (entry_of y) y.past made z other)) ∙ is
  by true mine =
      let same : z ≡ s = one_value z s (session_numbered y.setting (seen y) s.number) (subst (λ n. session_numbered y.setting (seen y) n ≡ Some z) (sym (eqb-true s.number z.number mine)) (session_has y.setting (seen y) z old)) has in
      let none : free_write (calls_of (seen (add_call_of s.number path p o op y)) z) ≡ None =
      ap (λ ms. free_write ms) (mine_more (entry_of y) y.past made z mine) ∙ (ap (λ b. cond b (Some new) (free_write (calls_of (seen y) z))) no_free ∙ (ap (λ (q : Session). free_write (calls_of (seen y) q)) same ∙ unfreed))
      in
      absurd (none_some m (sym none ∙ is))

pub since_freed : (x y : Step) → DeltaSince x y → FreedSame x y
since_freed x y h s m there is = (subst (λ ss. Contains ss s) h.sessions there, sym (ap (λ ms. free_write (filter (is_call_of s) ms)) h.calls) ∙ is)

pub allows_done : (x : Step) → FreedBefore x → Allows (DeltaSince x) (DeltaDone x) (DeltaReply x) (DeltaCall x) AnyStart AnyMove
allows_done x freed =
    let k : Allows (DeltaSince x) (λ y. DeltaPart y.setting (seen y)) (DeltaReply x) (DeltaCall x) AnyStart AnyMove = delta_allows x freed in
    record {
      ends = k.ends;
      signals = k.signals;
      moves = k.moves;
      grants = k.grants;
      starts = k.starts;
      replies = k.replies;
      calls = λ y s path p o op may h. (
        k.calls y s path p o op may h,
        λ z m there is.
            let calls : calls_of (seen y) s ≡ calls_of (seen x) s = ap (λ ms. filter (is_call_of s) ms) h.calls in
            let was = freed_call y s path p o op (subst (λ ss. slice_get ss s.number ≡ Some s) (sym h.sessions) may.has) may.no_look may.no_free (ap (λ ms. free_write ms) calls ∙ may.unfreed) z m there is in
            since_freed x y h z m was.0 was.1,
      );
      rest = λ y h. (h.part, since_freed x y h);
    }

-- ---- holdings

-- What an act leaves, where the session that it grants to has not written its free.
pub delta_full : (x y : Step) (n : ℕ) → DeltaFacts x.setting (seen x) → DeltaDone x y → HeldBy x n y → ((s : Session) → Contains (sessions x.setting (seen x)) s → s.number ≡ n → free_write (calls_of (seen x) s) ≡ None) → HasDeltaFacts y
delta_full x y n h d owners unfreed =
    record {
      frees = λ s m there is.
          let part = d.0.frees s m there is in
          let was = d.1 s m there is in
          (part.0, no_members (holdings_of (seen y) s) (λ g inside. never s m g was.0 was.1 (kept_inside (λ (z : Grant). z.session == s.number) (holdings (seen y)) g inside)), part.1);
      before = d.0.before;
      numbers = d.0.numbers;
      left = d.0.left;
    } where
      never : (s : Session) (m : Submitted) (g : Grant) → Contains (sessions x.setting (seen x)) s → free_write (calls_of (seen x) s) ≡ Some m → Contains (holdings (seen y)) g × ((g.session == s.number) ≡ true) → ⊥
      never s m g there is inside = by (owners g inside.0) where
        its : g.session ≡ s.number
        its = eqb-true g.session s.number inside.1

        by : ((k : Grant) × Contains (holdings (seen x)) k × (k.session ≡ g.session)) ⊎ (g.session ≡ n) → ⊥
        by (inl old) =
            let mine : Contains (holdings_of (seen x) s) old.0 = kept (λ (z : Grant). z.session == s.number) (holdings (seen x)) old.0 (ap (λ k. k == s.number) (old.2 ∙ its) ∙ number_itself s.number) old.1 in
            contains_none old.0 (subst (λ gs. Contains gs old.0) (h.frees s m there is).1 mine)
        by (inr own) = none_some m (sym (unfreed s there (sym its ∙ own)) ∙ is)

-- Of an act that grants nothing.
pub no_number : (x : Step) (s : Session) → Contains (sessions x.setting (seen x)) s → s.number ≡ length (sessions x.setting (seen x)) → free_write (calls_of (seen x) s) ≡ None
no_number x s there is =
    let at = contains_at (sessions x.setting (seen x)) s there in
    let place : s.number ≡ at.0 = number_is_place x.setting (seen x) at.0 s at.1 in
    let low : at.0 < length (sessions x.setting (seen x)) = slice_get_within (sessions x.setting (seen x)) at.0 s at.1 in
    absurd (omega (arith, place, low, is))

pub one_unfreed : (x : Step) (s : Session) → Has x s → free_write (calls_of (seen x) s) ≡ None → (z : Session) → Contains (sessions x.setting (seen x)) z → z.number ≡ s.number → free_write (calls_of (seen x) z) ≡ None
one_unfreed x s has free z there same =
    let one : z ≡ s = one_value z s (session_numbered x.setting (seen x) s.number) (subst (λ n. session_numbered x.setting (seen x) n ≡ Some z) same (session_has x.setting (seen x) z there)) has in
    ap (λ (q : Session). free_write (calls_of (seen x) q)) one ∙ free

-- ---- joinings

-- A joining's call.
joining_call : (x y : Step) (s : Session) (path : List ℕ) (p : Purpose) (o : ℕ) (op : Op) → Has y s → is_join_call FirstRead p ≡ false → is_free_purpose p ≡ false → joined_after (seen y) s ≡ None → free_write (calls_of (seen y) s) ≡ None → DeltaPart y.setting (seen y) → FreedSame x y
    → DeltaDone x (add_call_of s.number path p o op y)
joining_call x y s path p o op has no_look no_free unjoined unfreed h freed = (
  call_delta y s path p o op has no_look no_free unfreed (λ d is joined. absurd (false_is_true (sym (ap (λ q. is_some q) unjoined) ∙ joined_then (seen y) s joined))) h,
  λ z m there is. let was = freed_call y s path p o op has no_look no_free unfreed z m there is in freed z m was.0 was.1,
)

-- Its job is answered ok.
join_part : (x y : Step) (s : Session) (j generation : ℕ) → line_in x.input ≡ None → Whole x → DeltaSince x y → Has x s → s.job ≡ Some j → HasNumbers (seen x) s → DeltaPart y.setting (seen (add_reply j (Generation generation) y))
join_part x y s j generation no_line h k has its numbers =
    record {
      frees = λ z m there is.
          let was : free_write (calls_of (seen x) z) ≡ Some m = sym (ap (λ ms. free_write (filter (is_call_of z) ms)) (same ∙ k.calls)) ∙ is in
          let part = k.part.frees z m there (sym (ap (λ ms. free_write (filter (is_call_of z) ms)) same) ∙ is) in
          let before : IsSome (leaving_job y.setting y.past z) = subst (λ es. IsSome (leaving_job y.setting es z)) (sym k.before) (subst (λ st. IsSome (leaving_job st x.past z)) (sym k.setting) (freed z m (subst (λ ss. Contains ss z) k.sessions there) was)) in
          (leaving_goes_on y.setting (entry_of (add_reply j (Generation generation) y)) y.past z before, (part.1.0, ap (λ ms. filter (is_call_of z) ms) same ∙ part.1.1, part.1.2));
      before = λ z m n there is inside. k.part.before z m n there (sym (ap (λ ms. free_write (filter (is_call_of z) ms)) same) ∙ is) (subst (λ ms. Contains (filter (is_call_of z) ms) n) same inside);
      numbers = λ z there joined.
          subst (λ ms. (1 ≤ generation_in z (filter (is_call_of z) ms)) × IsTrue (is_number (generation_in z (filter (is_call_of z) ms))) × IsTrue (is_number (seq_in z (filter (is_call_of z) ms)))) (sym same)
          (numbers_of z there joined (is_joined (seen y) z) refl);
      left = λ z i there joined leaves_z none.
          let before : leaving_job y.setting (seen y) z ≡ Some i = reply_leaving y j (Generation generation) z i leaves_z in
          let was : is_some (joined_after y.past z) ≡ true = leaving_joined y.setting (entry_of y) y.past z i before in
          subst (λ ms. IsTrue (is_number (seq_in z (filter (is_call_of z) ms) + 1))) (sym same)
          (k.part.left z i there (sym (reply_joined y j (Generation generation) z was) ∙ joined) before (sym (ap (λ ms. free_write (filter (is_call_of z) ms)) same) ∙ none));
    } where
      freed : FreedBefore x
      freed = freed_before x no_line (part_of x.setting (seen x) h.facts.delta)

      same : submitted (seen (add_reply j (Generation generation) y)) ≡ submitted (seen y)
      same = calls_stay y j (Generation generation) (late_join y generation)

      numbers_of : (z : Session) → Contains (sessions y.setting (seen y)) z → is_joined (seen (add_reply j (Generation generation) y)) z ≡ true → (b : Bool) → is_joined (seen y) z ≡ b → HasNumbers (seen y) z
      numbers_of z there joined true was = k.part.numbers z there was
      numbers_of z there joined false was = by (is_some (joined_after (seen y) z)) refl where
        new_one : is_some (joined_after (seen y) z) ≡ false → z.job ≡ Some j
        new_one unjoined = by_job z.job refl where
          by_job : (o : Option ℕ) → z.job ≡ o → z.job ≡ Some j
          by_job None none =
              absurd (false_is_true (sym unjoined ∙ ap (λ (o : Option ℕ). is_some (elim o as (λ q. Option ℕ) [ None ↦ Some 0 | Some i ↦ option_and_then (λ (r : Replied). choose (is_join_done r.reply) (r.at + 1)) (reply_to (seen y) i) ])) none))
          by_job (Some i) is = either (j == i) refl where
            either : (b : Bool) → (j == i) ≡ b → z.job ≡ Some j
            either true mine = is ∙ ap (λ n. Some n) (sym (eqb-true j i mine))
            either false other =
                let still : is_some (joined_after (seen y) z) ≡ true =
                reply_joins_none y j (Generation generation) z (inl (λ own. not_both (j == i) (ap (λ n. j == n) (some_value i j (sym is ∙ own)) ∙ number_itself j) other)) (joined_then (seen (add_reply j (Generation generation) y)) z joined)
                in
                absurd (false_is_true (sym unjoined ∙ still))

        by : (b : Bool) → is_some (joined_after (seen y) z) ≡ b → HasNumbers (seen y) z
        by true before = absurd (not_both (is_joined (seen y) z) (ap₂ (λ p q. p && q) before (and_true (is_some (joined_after (seen (add_reply j (Generation generation) y)) z)) (is_none (removed_after (seen y) z)) joined).1) was)
        by false unjoined =
            let one : z ≡ s = one_session x.setting (seen x) z s j (subst (λ ss. Contains ss z) k.sessions there) (got_inside (sessions x.setting (seen x)) s.number s has) (new_one unjoined) its in
            subst (λ (q : Session). HasNumbers (seen y) q) (sym one)
            (subst (λ ms. (1 ≤ generation_in s (filter (is_call_of s) ms)) × IsTrue (is_number (generation_in s (filter (is_call_of s) ms))) × IsTrue (is_number (seq_in s (filter (is_call_of s) ms)))) (sym k.calls) numbers)

pub joining_delta : (x : Step) (s : Session) (j : ℕ) → line_in x.input ≡ None → Whole x → Has x s → s.job ≡ Some j → is_running (seen x) j ≡ true → (n : DeltaNext) → IsLateDelta n → JoinsNot n ⊎ HasNumbers (seen x) s → DeltaDone x (carry_delta s n x)
unfolding carry_delta
joining_delta x s j no_line h has its runs n k joins = by n k joins where
  part : DeltaPart x.setting (seen x)
  part = part_of x.setting (seen x) h.facts.delta

  unjoined : joined_after (seen x) s ≡ None
  unjoined = running_unjoined (seen x) s j its runs

  unfreed : free_write (calls_of (seen x) s) ≡ None
  unfreed = unjoined_unfreed x s h.orderly has (running_unjoined (seen x) s j its runs)

  allowed : Allows (DeltaSince x) (DeltaDone x) (DeltaReply x) (DeltaCall x) AnyStart AnyMove
  allowed = allows_done x (freed_before x no_line (part_of x.setting (seen x) h.facts.delta))

  itself_done : DeltaDone x x
  itself_done = (part_of x.setting (seen x) h.facts.delta, λ z m there is. (there, is))

  moved : (m : Move) → DeltaSince x (add_move m x)
  moved m = allowed.moves x m tt (delta_at x (part_of x.setting (seen x) h.facts.delta))

  by : (d : DeltaNext) → IsLateDelta d → JoinsNot d ⊎ HasNumbers (seen x) s → DeltaDone x (carry_delta s d x)
  by Nothing q f = itself_done
  by (RefuseJoin r) q f = delta (DeltaSince x) (DeltaDone x) (DeltaReply x) (DeltaCall x) AnyStart AnyMove allowed x s (RefuseJoin r) (λ i of. (plain_reply x i r q, λ z is. tt)) (delta_at x part)
  by Disconnect q f = delta (DeltaSince x) (DeltaDone x) (DeltaReply x) (DeltaCall x) AnyStart AnyMove allowed x s Disconnect tt (delta_at x part)
  by (ReadOwn step) q f =
      with_some_keeps (DeltaDone x) s.job (λ i. read_own_sector s (Joining i step)) x
      (λ i of g. joining_call x x s s.path (Joining i step) (own_offset x.setting s) (ReadSectors 1) has q refl unjoined unfreed g.0 g.1) itself_done
  by (RegisterAndRead step) q f =
      let m : Move = Register s.lockspace (x.reading + fail x.setting.timing) in
      with_some_keeps (DeltaDone x) s.job (λ i y. read_own_sector s (Joining i step) (register s y)) x
      (λ i of g. joining_call x (register s x) s s.path (Joining i step) (own_offset x.setting s) (ReadSectors 1) has q refl unjoined unfreed (moved m).part (since_freed x (register s x) (moved m))) itself_done
  by (WriteClaim d) q f =
      with_some_keeps (DeltaDone x) s.job (λ i. write_own_sector s (Joining i ClaimWrite) d) x
      (λ i of g. joining_call x x s s.path (Joining i ClaimWrite) (own_offset x.setting s) (WriteRecord (DeltaIs d)) has refl refl unjoined unfreed g.0 g.1) itself_done
  by (WriteFirst d) q f =
      with_some_keeps (DeltaDone x) s.job (λ i. write_own_sector s (Joining i FirstRenewal) d) x
      (λ i of g. joining_call x x s s.path (Joining i FirstRenewal) (own_offset x.setting s) (WriteRecord (DeltaIs d)) has refl refl unjoined unfreed g.0 g.1) itself_done
  by (Join generation renewed) q (inl never) = absurd never
  by (Join generation renewed) q (inr numbers) =
      with_some_keeps (DeltaDone x) s.job (λ i y. survey s (add_reply i (Generation generation) (move_connection s renewed y))) x
      (λ i of g.
      let m : Move = Renew s.lockspace (renewed + fail x.setting.timing) in
      let y : Step = move_connection s renewed x in
      let z : Step = add_reply i (Generation generation) y in
      let p : DeltaPart x.setting (seen z) = join_part x y s i generation no_line h (moved m) has of numbers in
      let calls : submitted (seen z) ≡ submitted (seen x) = calls_stay y i (Generation generation) (late_join y generation) in
      let free : free_write (calls_of (seen z) s) ≡ None = ap (λ ms. free_write (filter (is_call_of s) ms)) calls ∙ unfreed in (
        call_delta z s s.path Survey s.offset (ReadSectors x.setting.layout.hosts) has refl refl free (λ d is joined. absurd (none_some d is)) p,
        λ w k there is.
            let was = freed_call z s s.path Survey s.offset (ReadSectors x.setting.layout.hosts) has refl refl free w k there is in
            (was.0, sym (ap (λ ms. free_write (filter (is_call_of w) ms)) calls) ∙ was.1),
      )) itself_done
  by (MoveConnection renewed) q f =
      let m : Move = Renew s.lockspace (renewed + fail x.setting.timing) in
      joining_call x (move_connection s renewed x) s s.path Survey s.offset (ReadSectors x.setting.layout.hosts) has refl refl unjoined unfreed (moved m).part (since_freed x (move_connection s renewed x) (moved m))
  by (WriteRenewal d) q f = joining_call x x s s.path Renewal (own_offset x.setting s) (WriteRecord (DeltaIs d)) has refl refl unjoined unfreed part (λ z m there is. (there, is))
  by (WriteFree i d) q f = absurd q
  by (EndLeaving i r) q f = absurd q
