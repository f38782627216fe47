-- What the moves of an entry so far say is kept by what is done of joinings.
use Rattle.sl_due_facts.specs.Acts.TraceSoFar.{SoFar, entry_of}
use Rattle.sl_due.specs.CarriedDelta.{carry_delta, for_joining, move_connection, read_own_sector, register, survey, write_own_sector}
use Rattle.sl_due.specs.DueTimeOuts.{refuse, remove_connection, remove_of_refused}
use Rattle.sl_due.specs.Steps.{Step, add_call_of, add_move, add_reply, seen, when, with_some}
use Rattle.sl_due_facts.proofs.Jobs.CallsStay.{IsLate, calls_stay, late, late_join}
use Rattle.sl_due_facts.proofs.Jobs.SessionsArePresent.{session_has}
use Rattle.sl_due_facts.proofs.Jobs.SessionsHaveJobs.{one_session}
use Rattle.sl_run.specs.LawfulConnections.{is_covered}
use Rattle.sl_due_facts.proofs.AddedEffects.CallsGrow.{any_more}
use Rattle.sl_due_facts.proofs.AddedEffects.JoinedCallsKeepOrder.{joined_is_covered}
use Rattle.sl_words.proofs.Lists.{find_fails, find_inside}
use Rattle.sl_words.proofs.Numbers.{number_itself}
use Rattle.sl_words.proofs.Options.{some_there}
use Rattle.sl_words.proofs.Truth.{or_false}
use Rattle.sl_sector.specs.declared.sector.Rec.TheVariants.{DeltaIs}
use Rattle.sl_due_facts.proofs.Connections.ConnectionEffects.{alters_call, alters_move, alters_nothing, alters_reply, registers_own, removes_own, renews_own}
use Rattle.sl_due_facts.proofs.Connections.ConnectionFactsAreKept.{removed_uncovered}
use Rattle.sl_due_facts.proofs.Connections.ConnectionsChange.{Alters, IsAlone}
use Rattle.sl_due_facts.proofs.Connections.JoiningConnections.{Working, refused_by_reply, working_alone, working_inside, working_present, working_unjoined, working_unrefused, writing_covered}
use Rattle.sl_due_facts.proofs.Connections.JoiningSteps.{JoinsConnection, NoHeardWriter, special_join}
use Rattle.sl_due_facts.proofs.Connections.MovesAltered.{closed_uncovered, moves_one, moves_steady}
use Rattle.sl_due_facts.proofs.Connections.SessionParts.{present_joined}
use Rattle.sl_due_facts.proofs.Connections.SteadyActs.{steady_allow, steady_itself}
use Rattle.sl_due_facts.proofs.Sessions.NameActs.{joined_by_reply}
use Rattle.sl_due_facts.proofs.Sessions.NamesAreAllowed.{joined_unrefused}
use Rattle.sl_trace.specs.Sessions.{calls_of, has_open_write, is_call_of, is_join_call, is_join_done, is_present, joined_after, refused_after, removed_after, session_of_job, sessions, stage_in}
use Rattle.sl_trace.specs.declared.delta.DeltaNext.TheVariants.{Disconnect, EndLeaving, Join, MoveConnection, Nothing, ReadOwn, RefuseJoin, RegisterAndRead, WriteClaim, WriteFirst, WriteFree, WriteRenewal}
use Rattle.sl_trace.specs.declared.delta.DeltaNext.{DeltaNext}
use Rattle.sl_trace.specs.declared.session.Session.{Session}
use Rattle.sl_trace.specs.declared.stage.Stage.TheVariants.{Waiting}
use Rattle.sl_due_facts.specs.Facts.HeardCall.{heard_by}
use Rattle.sl_due_facts.specs.Facts.AllFacts.{Whole}
use Rattle.sl_time.specs.Times.{fail}
use Rattle.sl_trace.specs.WatchdogConnections.{is_registered, registers, unregisters}
use Rattle.sl_trace.specs.Traces.{Submitted, is_running, is_write, unanswered}
use Rattle.sl_trace.specs.declared.effects.JoinStep.TheVariants.{ClaimWrite, FirstRead, FirstRenewal, WatchRead}
use Rattle.sl_trace.specs.declared.effects.JoinStep.{JoinStep}
use Rattle.sl_trace.specs.declared.effects.Move.TheVariants.{Register, Renew, Unregister}
use Rattle.sl_trace.specs.declared.effects.Op.TheVariants.{ReadSectors, WriteRecord}
use Rattle.sl_trace.specs.declared.effects.Op.{Op}
use Rattle.sl_trace.specs.declared.effects.Purpose.TheVariants.{Joining, Survey}
use Rattle.sl_trace.specs.declared.input.Input.TheVariants.{Wake}
use Rattle.sl_trace.specs.declared.reply.Reply.TheVariants.{Generation}
use Rattle.sl_trace.specs.declared.reply.Reply.{Reply}
use Rattle.sl_run_law.proofs.Sessions.SessionNames.{same_name}
use Rattle.sl_run_law.proofs.Sessions.MarksStay.{joined_more, refused_apart}
use Rattle.sl_words.proofs.CaseLaws.{false_is_true, is_false, none_some, not_both}
use Rattle.sl_words.specs.Words.{some_is}
use Rattle.std.proofs.Common.{ap, inl, inr, refl, subst, sym, ◌∙◌}
use Rattle.std.proofs.lemmas.Bool.{eqb-true}
use Rattle.std.proofs.lemmas.Slice.Eq.{bytes_eq-Decides}
use Rattle.std.specs.List.{list_any}
use Rattle.std.specs.Prelude.{Bool, Contains, List, None, Option, Some, [], bytes_eq, false, filter, is_none, is_some, not, true, ℕ, ◌&&◌, ◌++◌, ◌+◌, ◌==◌, ◌||◌, ◌∷◌, ◌≡◌, ◌⊎◌}
use Rattle.sl_due_facts.specs.Connections.MovedSoFar.{IsClosed, MovedSoFar}
use Rattle.sl_trace.specs.DeltaDecisions.{own_offset}

-- ---- one move more

pub any_split : {A : Type 0} (p : A → Bool) (xs : List A) (y : A) → list_any p (xs ++ y ∷ []) ≡ true → (list_any p xs ≡ true) ⊎ (p y ≡ true)
any_split p [] y is = inr (or_false (p y) is)
any_split p (x ∷ xs) y is = by (p x) is (λ h. any_split p xs y h) where
  by : (b : Bool) → (b || list_any p (xs ++ y ∷ [])) ≡ true → (list_any p (xs ++ y ∷ []) ≡ true → (list_any p xs ≡ true) ⊎ (p y ≡ true)) → ((b || list_any p xs) ≡ true) ⊎ (p y ≡ true)
  by true h more = inl refl
  by false h more = more h

pub same_text : (a b : List ℕ) → bytes_eq a b ≡ true → bytes_eq b a ≡ true
same_text a b is = subst (λ c. bytes_eq b c ≡ true) (sym ((bytes_eq-Decides a b).0 is)) (same_name b)

-- A session that was refused or has been removed, and writes nothing.
pub closed_refused : (y : Step) (s : Session) → joined_after (seen y) s ≡ None → is_some (refused_after (seen y) s) ≡ true → has_open_write (seen y) s ≡ false → IsClosed y s
closed_refused y s none refused quiet = record { unwritten = quiet; gone = inl (by (joined_after (seen y) s) (refused_after (seen y) s) none refused) } where
  by : (o r : Option ℕ) → o ≡ None → is_some r ≡ true → (is_none (elim o as (λ z. Option ℕ) [ Some k ↦ removed_after (seen y) s | None ↦ r ]) || is_none o && has_open_write (seen y) s) ≡ false
  by None (Some k) none refused = quiet
  by None None none refused = absurd (false_is_true refused)
  by (Some k) r none refused = absurd (none_some k (sym none))

pub closed_removed : (x : Step) (s : Session) → is_some (joined_after x.past s) ≡ true → has_open_write (seen x) s ≡ false → IsClosed (add_move (Unregister s.lockspace) x) s
closed_removed x s was quiet =
    record {
      unwritten = quiet;
      gone = inl (is_false (is_present (seen (add_move (Unregister s.lockspace) x)) s) (λ present.
          not_both (is_covered (seen (add_move (Unregister s.lockspace) x)) s)
          (joined_is_covered (seen (add_move (Unregister s.lockspace) x)) s (present_joined (seen (add_move (Unregister s.lockspace) x)) s now present)) (removed_uncovered x s was)));
    } where
      now : is_some (joined_after (seen x) s) ≡ true
      now = let k = some_there (joined_after x.past s) was in ap (λ o. is_some o) (joined_more (entry_of x) x.past s k.0 k.1)

-- ---- a connection is removed

pub moves_remove : (x y : Step) (z : Session) → y.setting ≡ x.setting → y.past ≡ x.past → y.input ≡ x.input → y.effects.moves ≡ x.effects.moves → SoFar x → Alters x.setting (seen x) (seen y) (heard_by x.input) z → is_present (seen x) z ≡ true
    → IsAlone x.setting (seen x) z → IsClosed y z → IsClosed (add_move (Unregister z.lockspace) y) z → MovedSoFar x → (b : Bool) → MovedSoFar (when b (add_move (Unregister z.lockspace)) y)
moves_remove x y z setting before input moves orderly a present alone closed_here closed_there m false =
    moves_one x y z orderly
    (record {
      setting = setting;
      before = before;
      input = input;
      alters = a;
      present = present;
      alone = alone;
      closes = λ n other is. subst (λ ms. list_any (unregisters n) ms ≡ true) moves is;
      opens = λ n is. inl (subst (λ ms. list_any (registers n) ms ≡ true) moves is);
      own = inl closed_here;
    }) m
moves_remove x y z setting before input moves orderly a present alone closed_here closed_there m true =
    moves_one x (add_move (Unregister z.lockspace) y) z orderly
    (record {
      setting = setting;
      before = before;
      input = input;
      alters = subst (λ st. Alters st (seen x) (seen (add_move (Unregister z.lockspace) y)) (heard_by x.input) z) setting
          (alters_move (seen x) (heard_by x.input) z y (Unregister z.lockspace) (removes_own z.lockspace) (subst (λ st. Alters st (seen x) (seen y) (heard_by x.input) z) (sym setting) a));
      present = present;
      alone = alone;
      closes = λ n other is. subst (λ ms. list_any (unregisters n) ms ≡ true) moves (closes n other (any_split (unregisters n) y.effects.moves (Unregister z.lockspace) is));
      opens = λ n is. inl (subst (λ ms. list_any (registers n) ms ≡ true) moves (sym (any_more (registers n) y.effects.moves (Unregister z.lockspace) refl) ∙ is));
      own = inl closed_there;
    }) m
  where
    closes : (n : List ℕ) → bytes_eq n z.lockspace ≡ false → (list_any (unregisters n) y.effects.moves ≡ true) ⊎ (bytes_eq z.lockspace n ≡ true) → list_any (unregisters n) y.effects.moves ≡ true
    closes n other (inl is) = is
    closes n other (inr same) = absurd (not_both (bytes_eq n z.lockspace) (same_text z.lockspace n same) other)

-- ---- a joining is refused

refused_moves : (x : Step) (s : Session) (j : ℕ) (r : Reply) → Working x s j → IsLate x r → is_join_done r ≡ false → MovedSoFar x → MovedSoFar (remove_of_refused s (add_reply j r x))
refused_moves x s j r w after other m = by (is_some (refused_after (seen y) s)) (has_open_write (seen y) s) refl refl where
  y : Step
  y = add_reply j r x

  mine : Contains (sessions x.setting (seen x)) s
  mine = working_inside x s j w

  a : Alters x.setting (seen x) (seen (add_reply j r x)) (heard_by x.input) s
  a = alters_reply (seen x) (heard_by x.input) s x j r after
      (λ z there away its. not_both (bytes_eq z.lockspace s.lockspace) (ap (λ (q : Session). bytes_eq q.lockspace s.lockspace) (one_session x.setting (seen x) z s j there mine its w.its) ∙ same_name s.lockspace) away)
      (alters_nothing x.setting (seen x) (heard_by x.input) s)

  refused : is_some (refused_after (seen (add_reply j r x)) s) ≡ true
  refused = refused_by_reply x s j r w.its w.runs other

  unjoined : joined_after (seen (add_reply j r x)) s ≡ None
  unjoined = let k = some_there (refused_after (seen (add_reply j r x)) s) refused in refused_apart (seen (add_reply j r x)) s k.0 k.1

  same_writes : has_open_write (seen (add_reply j r x)) s ≡ has_open_write (seen x) s
  same_writes = ap (λ ms. list_any (λ (k : Submitted). is_write k.call.op) (unanswered (filter (is_call_of s) ms))) (calls_stay x j r after)

  by : (b c : Bool) → is_some (refused_after (seen (add_reply j r x)) s) ≡ b → has_open_write (seen (add_reply j r x)) s ≡ c → MovedSoFar (when (b && not c) (remove_connection s.lockspace) (add_reply j r x))
  by false c is writes = absurd (not_both (is_some (refused_after (seen (add_reply j r x)) s)) refused is)
  by true true is writes =
      moves_one x (add_reply j r x) s w.orderly
      (record {
        setting = refl;
        before = refl;
        input = refl;
        alters = a;
        present = working_present x s j w;
        alone = working_alone x s j w;
        closes = λ n away is_one. is_one;
        opens = λ n is_one. inl is_one;
        own = inr ((λ c. not_both (has_open_write (seen x) s) (sym same_writes ∙ writes) c.unwritten), λ is_one. is_one);
      }) m
  by true false is writes =
      moves_remove x (add_reply j r x) s refl refl refl refl w.orderly a (working_present x s j w) (working_alone x s j w) (closed_refused (add_reply j r x) s unjoined refused writes)
      (closed_refused (add_move (Unregister s.lockspace) (add_reply j r x)) s unjoined refused writes) m (is_registered x.setting (seen (add_reply j r x)) s.lockspace)

pub refuse_moves : (x : Step) (j : ℕ) (r : Reply) → is_running (seen x) j ≡ true → IsLate x r → is_join_done r ≡ false → Whole x → MovedSoFar x → MovedSoFar (refuse j r x)
unfolding refuse
refuse_moves x j r runs after other h m = by (session_of_job x.setting (seen x) j) refl where
  its : (o : Option ℕ) → some_is (λ i. i == j) o ≡ true → o ≡ Some j
  its None is = absurd (false_is_true is)
  its (Some i) is = ap (λ n. Some n) (eqb-true i j is)

  by : (o : Option Session) → session_of_job x.setting (seen x) j ≡ o → MovedSoFar (with_some o remove_of_refused (add_reply j r x))
  by None none =
      moves_steady x (add_reply j r x)
      ((steady_allow x).replies x j r (after, (λ z there is. not_both (some_is (λ i. i == j) z.job) (ap (λ o. some_is (λ i. i == j) o) is ∙ number_itself j) (find_fails (λ (q : Session). some_is (λ i. i == j) q.job) (sessions x.setting (seen x)) z none there)))
      (steady_itself x)) m
  by (Some z) is =
      let found = find_inside (λ (q : Session). some_is (λ i. i == j) q.job) (sessions x.setting (seen x)) z is in
      refused_moves x z j r (record { has = session_has x.setting (seen x) z found.0; its = its z.job found.1; runs = runs; names = h.facts.names; orderly = h.orderly }) after other m

-- ---- a joining goes on

quiet_call : (x : Step) (s : Session) (j : ℕ) (step : JoinStep) (path : List ℕ) (o : ℕ) (op : Op) → Working x s j → is_join_call FirstRead (Joining j step) ≡ false → (IsClosed x s → ⊥) → MovedSoFar x → MovedSoFar (add_call_of s.number path (Joining j step) o op x)
quiet_call x s j step path o op w no_look open_one m =
    moves_one x (add_call_of s.number path (Joining j step) o op x) s w.orderly
    (record {
      setting = refl;
      before = refl;
      input = refl;
      alters = alters_call (seen x) (heard_by x.input) s x path (Joining j step) o op w.has no_look (working_unrefused x s j w) (alters_nothing x.setting (seen x) (heard_by x.input) s);
      present = working_present x s j w;
      alone = working_alone x s j w;
      closes = λ n away is. is;
      opens = λ n is. inl is;
      own = inr (open_one, λ is. is);
    }) m

open_at_work : (x : Step) (s : Session) (j : ℕ) → Working x s j → (stage_in (calls_of (seen x) s) ≡ Waiting → x.input ≡ Wake) → IsClosed x s → ⊥
open_at_work x s j w wakes c = by c.gone where
  by : (is_present (seen x) s ≡ false) ⊎ ((joined_after (seen x) s ≡ None) × (refused_after (seen x) s ≡ None) × (stage_in (calls_of (seen x) s) ≡ Waiting) × (x.input ≡ Wake → ⊥)) → ⊥
  by (inl absent_one) = not_both (is_present (seen x) s) (working_present x s j w) absent_one
  by (inr waits) = waits.3 (wakes waits.2)

registers_moves : (x : Step) (s : Session) (j : ℕ) (step : JoinStep) (o : ℕ) (op : Op) → Working x s j → is_join_call FirstRead (Joining j step) ≡ false → (IsClosed x s → ⊥) → Contains (sessions x.setting x.past) s → is_present x.past s ≡ true → is_covered x.past s ≡ false
    → MovedSoFar x → MovedSoFar (add_call_of s.number s.path (Joining j step) o op (register s x))
registers_moves x s j step o op w no_look open_one there present uncovered m =
    moves_one x (add_call_of s.number s.path (Joining j step) o op (register s x)) s w.orderly
    (record {
      setting = refl;
      before = refl;
      input = refl;
      alters = alters_call (seen x) (heard_by x.input) s (register s x) s.path (Joining j step) o op w.has no_look (working_unrefused x s j w)
          (alters_move (seen x) (heard_by x.input) s x (Register s.lockspace (x.reading + fail x.setting.timing)) (registers_own s.lockspace (x.reading + fail x.setting.timing)) (alters_nothing x.setting (seen x) (heard_by x.input) s));
      present = working_present x s j w;
      alone = working_alone x s j w;
      closes = λ n away is. sym (any_more (unregisters n) x.effects.moves (Register s.lockspace (x.reading + fail x.setting.timing)) refl) ∙ is;
      opens = λ n is. opens n (any_split (registers n) x.effects.moves (Register s.lockspace (x.reading + fail x.setting.timing)) is);
      own = inr (open_one, λ is. sym (any_more (unregisters s.lockspace) x.effects.moves (Register s.lockspace (x.reading + fail x.setting.timing)) refl) ∙ is);
    }) m
  where
    opens : (n : List ℕ) → (list_any (registers n) x.effects.moves ≡ true) ⊎ (bytes_eq s.lockspace n ≡ true)
        → (list_any (registers n) x.effects.moves ≡ true) ⊎ ((bytes_eq n s.lockspace ≡ true) × Contains (sessions x.setting x.past) s × (is_present x.past s ≡ true) × (is_covered x.past s ≡ false))
    opens n (inl is) = inl is
    opens n (inr same) = inr (same_text s.lockspace n same, there, present, uncovered)

join_moves : (x : Step) (s : Session) (j generation renewed : ℕ) → Working x s j → is_covered (seen x) s ≡ true → MovedSoFar x → MovedSoFar (survey s (add_reply j (Generation generation) (move_connection s renewed x)))
join_moves x s j generation renewed w covered m =
    let y : Step = move_connection s renewed x in
    let z : Step = add_reply j (Generation generation) y in
    let mine : Contains (sessions x.setting (seen x)) s = working_inside x s j w in
    let joined : is_some (joined_after (seen z) s) ≡ true = joined_by_reply y s j generation w.its w.runs in
    moves_one x (survey s z) s w.orderly
    (record {
      setting = refl;
      before = refl;
      input = refl;
      alters = alters_call (seen x) (heard_by x.input) s z s.path Survey s.offset (ReadSectors x.setting.layout.hosts) w.has refl (joined_unrefused (seen z) s joined)
          (alters_reply (seen x) (heard_by x.input) s y j (Generation generation) (late_join y generation)
          (λ q there away its. not_both (bytes_eq q.lockspace s.lockspace) (ap (λ (r : Session). bytes_eq r.lockspace s.lockspace) (one_session x.setting (seen x) q s j there mine its w.its) ∙ same_name s.lockspace) away)
          (alters_move (seen x) (heard_by x.input) s x (Renew s.lockspace (renewed + fail x.setting.timing)) (renews_own s.lockspace (renewed + fail x.setting.timing)) (alters_nothing x.setting (seen x) (heard_by x.input) s)));
      present = working_present x s j w;
      alone = working_alone x s j w;
      closes = λ n away is. sym (any_more (unregisters n) x.effects.moves (Renew s.lockspace (renewed + fail x.setting.timing)) refl) ∙ is;
      opens = λ n is. inl (sym (any_more (registers n) x.effects.moves (Renew s.lockspace (renewed + fail x.setting.timing)) refl) ∙ is);
      own = inr ((λ c. closed_uncovered x s c covered), λ is. sym (any_more (unregisters s.lockspace) x.effects.moves (Renew s.lockspace (renewed + fail x.setting.timing)) refl) ∙ is);
    }) m

for_own_moves : (x : Step) (s : Session) (j : ℕ) (f : ℕ → Step → Step) → s.job ≡ Some j → MovedSoFar (f j x) → MovedSoFar (for_joining s f x)
for_own_moves x s j f its h = subst (λ o. MovedSoFar (with_some o f x)) (sym its) h

-- Before the entry a joining that is not covered, and of which no write was heard, was not covered either.
abbrev pub UncoveredBefore : Step → Session → Type 0
UncoveredBefore x s = Contains (sessions x.setting x.past) s × (is_present x.past s ≡ true) × (is_covered (seen x) s ≡ false → NoHeardWriter x → is_covered x.past s ≡ false)

pub joining_moves : (x : Step) (s : Session) (j : ℕ) (n : DeltaNext) → Working x s j → JoinsConnection x s n → UncoveredBefore x s → Whole x → MovedSoFar x → MovedSoFar (carry_delta s n x)
unfolding carry_delta
joining_moves x s j Nothing w may past h m = m
joining_moves x s j (RefuseJoin r) w may past h m = for_own_moves x s j (λ i. refuse i r) w.its (refuse_moves x j r w.runs (late x r may) (special_join r may) h m)
joining_moves x s j (ReadOwn step) w may past h m =
    for_own_moves x s j (λ i. read_own_sector s (Joining i step)) w.its
    (subst (λ q. MovedSoFar (read_own_sector s (Joining j q) x)) (sym may.0) (quiet_call x s j WatchRead s.path (own_offset x.setting s) (ReadSectors 1) w refl (open_at_work x s j w (λ waits. may.2)) m))
joining_moves x s j (RegisterAndRead step) w may past h m =
    for_own_moves x s j (λ i y. read_own_sector s (Joining i step) (register s y)) w.its
    (registers_moves x s j step (own_offset x.setting s) (ReadSectors 1) w may.0 (open_at_work x s j w may.4) past.0 past.1 (past.2 may.2 may.3) m)
joining_moves x s j (WriteClaim d) w may past h m =
    for_own_moves x s j (λ i. write_own_sector s (Joining i ClaimWrite) d) w.its (quiet_call x s j ClaimWrite s.path (own_offset x.setting s) (WriteRecord (DeltaIs d)) w refl (λ c. closed_uncovered x s c may) m)
joining_moves x s j Disconnect w may past h m =
    moves_remove x x s refl refl refl refl w.orderly (alters_nothing x.setting (seen x) (heard_by x.input) s) (working_present x s j w) (working_alone x s j w) (closed x refl refl refl refl refl)
    (closed (add_move (Unregister s.lockspace) x) refl refl refl refl refl) m (is_registered x.setting (seen x) s.lockspace)
  where
    quiet : has_open_write (seen x) s ≡ false
    quiet = is_false (has_open_write (seen x) s) (λ writes. not_both (is_covered (seen x) s) (writing_covered x s j w writes) may.0)

    closed : (y : Step) → y.input ≡ x.input → joined_after (seen y) s ≡ joined_after (seen x) s → refused_after (seen y) s ≡ refused_after (seen x) s → calls_of (seen y) s ≡ calls_of (seen x) s → s ≡ s → IsClosed y s
    closed y input joined refused calls own =
        record {
          unwritten = ap (λ ms. list_any (λ (k : Submitted). is_write k.call.op) (unanswered ms)) calls ∙ quiet;
          gone = inr (joined ∙ working_unjoined x s j w, refused ∙ working_unrefused x s j w, ap (λ ms. stage_in ms) calls ∙ may.1, λ wake. may.2 (sym input ∙ wake));
        }
joining_moves x s j (WriteFirst d) w may past h m =
    for_own_moves x s j (λ i. write_own_sector s (Joining i FirstRenewal) d) w.its (quiet_call x s j FirstRenewal s.path (own_offset x.setting s) (WriteRecord (DeltaIs d)) w refl (λ c. closed_uncovered x s c may) m)
joining_moves x s j (Join generation renewed) w may past h m =
    for_own_moves x s j (λ i y. survey s (add_reply i (Generation generation) (move_connection s renewed y))) w.its (join_moves x s j generation renewed w may.0 m)
joining_moves x s j (MoveConnection renewed) w may past h m = absurd may
joining_moves x s j (WriteRenewal d) w may past h m = absurd may
joining_moves x s j (WriteFree i d) w may past h m = absurd may
joining_moves x s j (EndLeaving i r) w may past h m = absurd may
