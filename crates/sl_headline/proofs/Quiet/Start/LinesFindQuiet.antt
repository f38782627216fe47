-- What the line of a quiet acquire finds where it is looked at.
use Rattle.sl_due.specs.Due.{due}
use Rattle.sl_due.specs.Steps.{Step, seen, with_input}
use Rattle.sl_due_law.proofs.Causes.HeadsAreEarly.{heads_are_early}
use Rattle.sl_due_law.proofs.Causes.NamesBefore.{present_as}
use Rattle.sl_due_leases.proofs.Holdings.PlainPlaces.{text_is}
use Rattle.sl_due_facts.proofs.Jobs.SessionsArePresent.{joined_present, present_inside, present_is}
use Rattle.sl_due_law.proofs.LawfulTraces.TracesHold.{traces_hold}
use Rattle.sl_due_law.specs.Causes.LineCauses.{IsBeforeInput, stirred_entry}
use Rattle.sl_due_facts.specs.Facts.AllFacts.{WholeTrace}
use Rattle.sl_trace.specs.Counts.{held_here, holder_count, limit_met, may_act, resource_count, ungranted}
use Rattle.sl_trace.specs.Jobs.{is_asking_lease, is_command_that, is_granted_job}
use Rattle.sl_trace.specs.Leases.{lease_spots, open_on, spot_of}
use Rattle.sl_words.proofs.Lists.{contains_none, find_fails, find_inside}
use Rattle.sl_headline.proofs.Quiet.Start.FewerCounts.{all_pass, all_same, count_of_fewer, found_before, sum_of_fewer}
use Rattle.sl_due.specs.CarriedLease.{read_area}
use Rattle.sl_headline.proofs.Quiet.Step.LinesBegin.{lines_begin}
use Rattle.sl_headline.specs.Quiet.Start.CourseStarts.{IsQuietBefore, LinesFindQuiet, StartsReadTheArea}
use Rattle.sl_run.specs.Worlds.{reading_now}
use Rattle.sl_trace.specs.declared.effects.LeaseStep.TheVariants.{ReadArea}
use Rattle.sl_trace.specs.declared.effects.Work.TheVariants.{ForJob}
use Rattle.sl_headline.specs.Quiet.Step.AnswersLeadOn.{AsksQuietly, DoesAs, begun}
use Rattle.sl_trace.specs.Sessions.{has_open_write, is_active, is_join_done, is_joined, is_present, joined_after, leaving_job, present_sessions, recovery_of, refused_after, removed_after, session_named, sessions}
use Rattle.sl_trace.specs.declared.session.Session.{Session}
use Rattle.sl_trace.specs.WatchdogConnections.{unregisters}
use Rattle.sl_trace.specs.CountLimits.{most_holders, most_processes, most_resources}
use Rattle.sl_trace.specs.Traces.{Child, Job, Replied, Setting, Trace, child_after, children, holdings, is_before_input, is_child, is_ended_by, is_running, jobs, new_child, next_job, reply_in, reply_to, same_place, same_spot}
use Rattle.sl_trace.specs.declared.command.ResourceArg.{ResourceArg}
use Rattle.sl_trace.specs.declared.effects.Call.{Call}
use Rattle.sl_trace.specs.declared.effects.End.{End}
use Rattle.sl_trace.specs.declared.effects.Grant.{Grant}
use Rattle.sl_trace.specs.declared.effects.JobReply.{JobReply}
use Rattle.sl_trace.specs.declared.effects.Move.{Move}
use Rattle.sl_trace.specs.declared.effects.Sent.{Sent}
use Rattle.sl_trace.specs.declared.effects.Spot.{Spot}
use Rattle.sl_trace.specs.declared.effects.Start.{Start}
use Rattle.sl_trace.specs.declared.input.Input.TheVariants.{Line, Wake}
use Rattle.sl_trace.specs.declared.input.Input.{Input}
use Rattle.sl_trace.specs.declared.reply.Limited.TheVariants.{Children, Holders, Resources}
use Rattle.sl_trace.specs.declared.reply.Reply.TheVariants.{Generation}
use Rattle.sl_trace.specs.declared.reply.Reply.{Reply}
use Rattle.sl_run_law.proofs.Sessions.SessionNames.{same_name}
use Rattle.sl_run_law.proofs.Sessions.MarksStay.{joined_more, refused_apart, refused_more}
use Rattle.sl_words.proofs.CaseLaws.{false_is_true, none_some, not_both}
use Rattle.sl_words.proofs.WordLaws.{and_true, or_true, some_is_true}
use Rattle.sl_words.specs.Words.{choose, some_is}
use Rattle.std.proofs.Common.{ap, ap₂, arith, inl, inr, refl, subst, sym, tests, ◌∙◌}
use Rattle.std.proofs.lemmas.List.{append-nil}
use Rattle.std.specs.List.{list_any}
use Rattle.std.specs.Option.{option_or}
use Rattle.std.specs.Prelude.{Bool, Contains, List, None, Option, Some, [], bytes_eq, count_by, false, filter, find, is_none, is_some, length, map, nat_le, not, option_and_then, option_map, sum_by, true, ℕ, ◌&&◌, ◌++◌, ◌+◌, ◌==◌, ◌∷◌, ◌≡◌, ◌||◌, ◌≤◌, ◌⊎◌}

-- A trace with an entry that has come to its input: it has started programs, refused jobs, moved connections and sent signals.
abbrev pub stirred : Trace → ℕ → List Start → List JobReply → List Move → List Sent → Trace
stirred past now ks rs ms gs = stirred_entry now ks rs ms gs ∷ past

-- A step before its input is one.
pub bare : (st : Setting) (past : Trace) (now : ℕ) (x : Step) → IsBeforeInput st past now x → seen x ≡ stirred past now x.effects.starts x.effects.replies x.effects.moves x.effects.signals
bare st past now x h =
    ap (λ i. made x.reading x.past i x.effects.ends x.effects.grants x.effects.calls) h.early.wake
    ∙ (ap (λ es. made x.reading x.past Wake es x.effects.grants x.effects.calls) h.early.unended
    ∙ (ap (λ gs. made x.reading x.past Wake [] gs x.effects.calls) h.early.ungranted
    ∙ (ap (λ cs. made x.reading x.past Wake [] [] cs) h.early.uncalled ∙ (ap (λ n. made n x.past Wake [] [] []) h.reading ∙ ap (λ t. made now t Wake [] [] []) h.before)))) where
      made : ℕ → Trace → Input → List End → List Grant → List Call → Trace
      made n t i es gs cs =
          record {
            reading = n;
            input = i;
            effects = record { ends = es; signals = x.effects.signals; moves = x.effects.moves; grants = gs; starts = x.effects.starts; replies = x.effects.replies; calls = cs };
          } ∷ t

-- ---- who is joined, and who is present

-- Replies of before an input.
abbrev AreEarly : List JobReply → Type 0
AreEarly rs = (a : JobReply) → Contains rs a → is_before_input a.reply ≡ true

early_is_not_done : (r : Reply) → is_before_input r ≡ true → is_join_done r ≡ true → ⊥
early_is_not_done (Generation g) early done = false_is_true early
early_is_not_done r early done = absurd (false_is_true done)

joined_by : (j : ℕ) (past : Trace) (rs : List JobReply) (o : Option Replied) (q : Option JobReply) (k : ℕ) → AreEarly rs → find (λ (a : JobReply). a.job == j) rs ≡ q
    → option_and_then (λ (r : Replied). choose (is_join_done r.reply) (r.at + 1)) (elim o as (λ z. Option Replied) [ Some r ↦ Some r | None ↦ option_map (λ (a : JobReply). record { at = length past; reply = a.reply }) q ]) ≡ Some k
    → option_and_then (λ (r : Replied). choose (is_join_done r.reply) (r.at + 1)) o ≡ Some k
joined_by j past rs (Some r) q k early its is = is
joined_by j past rs None None k early its is = is
joined_by j past rs None (Some a) k early its is = by (is_join_done a.reply) refl is where
  by : (b : Bool) → is_join_done a.reply ≡ b → choose b (length past + 1) ≡ Some k → None ≡ Some k
  by false not_done is = is
  by true done is = absurd (early_is_not_done a.reply (early a (find_inside (λ (z : JobReply). z.job == j) rs a its).0) done)

-- Nobody joins before an input.
joined_before : (past : Trace) (now : ℕ) (ks : List Start) (rs : List JobReply) (ms : List Move) (gs : List Sent) (s : Session) (k : ℕ) → AreEarly rs → joined_after (stirred past now ks rs ms gs) s ≡ Some k
    → joined_after past s ≡ Some k
joined_before past now ks rs ms gs s k early is = by s.job is where
  by : (o : Option ℕ)
      → elim o as (λ z. Option ℕ) [ None ↦ Some 0 | Some j ↦ option_and_then (λ (r : Replied). choose (is_join_done r.reply) (r.at + 1)) (reply_to (stirred past now ks rs ms gs) j) ] ≡ Some k
      → elim o as (λ z. Option ℕ) [ None ↦ Some 0 | Some j ↦ option_and_then (λ (r : Replied). choose (is_join_done r.reply) (r.at + 1)) (reply_to past j) ] ≡ Some k
  by None is = is
  by (Some j) is = joined_by j past rs (reply_to past j) (find (λ (a : JobReply). a.job == j) rs) k early refl is

removed_by : (o : Option ℕ) (b m : Bool) (n : ℕ) → is_none (elim o as (λ z. Option ℕ) [ Some k ↦ Some k | None ↦ choose (b && m) n ]) ≡ true → is_none o ≡ true
removed_by None b m n is = refl
removed_by (Some k) b m n is = is

removed_still : (o : Option ℕ) (b m : Bool) (n : ℕ) → m ≡ false → elim o as (λ z. Option ℕ) [ Some k ↦ Some k | None ↦ choose (b && m) n ] ≡ o
removed_still (Some k) b m n none = refl
removed_still None true m n none = ap (λ c. choose c n) none
removed_still None false m n none = refl

-- Who is joined then was joined.
was_joined : (past : Trace) (now : ℕ) (ks : List Start) (rs : List JobReply) (ms : List Move) (gs : List Sent) (s : Session) → AreEarly rs → is_joined (stirred past now ks rs ms gs) s ≡ true → is_joined past s ≡ true
was_joined past now ks rs ms gs s early is = by (joined_after t s) refl both.0 where
  t : Trace
  t = stirred past now ks rs ms gs

  both : (is_some (joined_after t s) ≡ true) × (is_none (removed_after t s) ≡ true)
  both = and_true (is_some (joined_after t s)) (is_none (removed_after t s)) is

  by : (o : Option ℕ) → joined_after t s ≡ o → is_some o ≡ true → is_joined past s ≡ true
  by None its some = absurd (false_is_true some)
  by (Some k) its some =
      ap (λ q. is_some q && is_none (removed_after past s)) (joined_before past now ks rs ms gs s k early its)
      ∙ removed_by (removed_after past s) (is_some (joined_after past s)) (list_any (unregisters s.lockspace) ms) (length past + 1) both.1

-- Who was joined still is, where its connection isn't removed.
pub is_still_joined : (past : Trace) (now : ℕ) (ks : List Start) (rs : List JobReply) (ms : List Move) (gs : List Sent) (s : Session) → list_any (unregisters s.lockspace) ms ≡ false → is_joined past s ≡ true
    → is_joined (stirred past now ks rs ms gs) s ≡ true
is_still_joined past now ks rs ms gs s spared is = by (joined_after past s) refl (and_true (is_some (joined_after past s)) (is_none (removed_after past s)) is) where
  by : (o : Option ℕ) → joined_after past s ≡ o → (is_some (joined_after past s) ≡ true) × (is_none (removed_after past s) ≡ true) → is_joined (stirred past now ks rs ms gs) s ≡ true
  by None joined h = absurd (false_is_true (sym (ap (λ w. is_some w) joined) ∙ h.0))
  by (Some k) joined h =
      ap₂ (λ w q. is_some w && is_none q) (joined_more (stirred_entry now ks rs ms gs) past s k joined)
      (removed_still (removed_after past s) (is_some (joined_after past s)) (list_any (unregisters s.lockspace) ms) (length past + 1) spared) ∙ h.1

at_work : (joined removed refused : Option ℕ) (writes : Bool) → joined ≡ None → refused ≡ None → present_as joined removed refused writes ≡ true
at_work None removed None writes a b = refl
at_work (Some k) removed refused writes a b = absurd (none_some k (sym a))
at_work None removed (Some k) writes a b = absurd (none_some k (sym b))

plainly_joined : (k : ℕ) (removed refused : Option ℕ) (writes : Bool) → present_as (Some k) removed refused writes ≡ true → is_none removed ≡ true
plainly_joined k None refused writes is = refl
plainly_joined k (Some i) refused writes is = is

-- Nobody is present then who was not.
was_present : (past : Trace) (now : ℕ) (ks : List Start) (rs : List JobReply) (ms : List Move) (gs : List Sent) (s : Session) → is_present (stirred past now ks rs ms gs) s ≡ true → is_present past s ≡ true
was_present past now ks rs ms gs s is = by (joined_after past s) refl (refused_after past s) refl where
  t : Trace
  t = stirred past now ks rs ms gs

  by : (o : Option ℕ) → joined_after past s ≡ o → (q : Option ℕ) → refused_after past s ≡ q → is_present past s ≡ true
  by None joined None refused = at_work (joined_after past s) (removed_after past s) (refused_after past s) (has_open_write past s) joined refused
  by (Some k) joined q refused =
      joined_present past s (ap (λ w. is_some w && is_none (removed_after past s)) joined
      ∙ removed_by (removed_after past s) (is_some (joined_after past s)) (list_any (unregisters s.lockspace) ms) (length past + 1)
      (plainly_joined k (removed_after t s) (refused_after t s) (has_open_write t s)
      (sym (ap (λ o. present_as o (removed_after t s) (refused_after t s) (has_open_write t s)) (joined_more (stirred_entry now ks rs ms gs) past s k joined)) ∙ is)))
  by None joined (Some k) refused =
      let later : refused_after t s ≡ Some k = refused_more (stirred_entry now ks rs ms gs) past s k refused in
      let none : joined_after t s ≡ None = refused_apart t s k later in
      ap₂ (λ o r. present_as o (removed_after past s) r (has_open_write past s)) joined refused
      ∙ (sym (ap₂ (λ o r. present_as o (removed_after t s) r (has_open_write t s)) none later) ∙ is)

-- It is found by its name.
still_named : (st : Setting) (past : Trace) (now : ℕ) (ks : List Start) (rs : List JobReply) (ms : List Move) (gs : List Sent) (s : Session) → WholeTrace st past → list_any (unregisters s.lockspace) ms ≡ false
    → Contains (sessions st past) s → is_joined past s ≡ true → session_named st (stirred past now ks rs ms gs) s.lockspace ≡ Some s
still_named st past now ks rs ms gs s w spared there joined = by (session_named st t s.lockspace) refl where
  t : Trace
  t = stirred past now ks rs ms gs

  same : sessions st t ≡ sessions st past
  same = append-nil (sessions st past)

  mine : Contains (present_sessions st t) s
  mine = present_inside st t s (subst (λ ss. Contains ss s) (sym same) there) (joined_present t s (is_still_joined past now ks rs ms gs s spared joined))

  by : (o : Option Session) → session_named st t s.lockspace ≡ o → session_named st t s.lockspace ≡ Some s
  by None none = absurd (not_both (bytes_eq s.lockspace s.lockspace) (same_name s.lockspace) (find_fails (λ (z : Session). bytes_eq z.lockspace s.lockspace) (present_sessions st t) s none mine))
  by (Some f) found =
      let inside = find_inside (λ (z : Session). bytes_eq z.lockspace s.lockspace) (present_sessions st t) f found in
      let is = present_is st t f inside.0 in
      let before : Contains (present_sessions st past) f = present_inside st past f (subst (λ ss. Contains ss f) same is.0) (was_present past now ks rs ms gs f is.1) in
      let one : f ≡ s = w.facts.names.apart f s before (present_inside st past s there (joined_present past s joined)) (text_is f.lockspace s.lockspace inside.1) in
      found ∙ ap (λ z. Some z) one

-- ---- children, holdings and counts

children_are : (past : Trace) (now : ℕ) (ks : List Start) (rs : List JobReply) (ms : List Move) (gs : List Sent) → children (stirred past now ks rs ms gs) ≡ children past ++ map new_child ks
children_are past now ks rs ms gs = ap (λ cs. cs ++ map new_child ks) (all_same (child_after Wake) (children past) (λ c. refl))

still_acts : (past : Trace) (now : ℕ) (ks : List Start) (rs : List JobReply) (ms : List Move) (gs : List Sent) (p : ℕ) → may_act past p ≡ true → may_act (stirred past now ks rs ms gs) p ≡ true
still_acts past now ks rs ms gs p is = by (or_true (nat_le p most_processes) (is_child past p) is) where
  t : Trace
  t = stirred past now ks rs ms gs

  runs : Child → Bool
  runs k = some_is (λ ok. ok) k.answer && not k.exited

  right : (b c : Bool) → c ≡ true → (b || c) ≡ true
  right true c is = refl
  right false c is = is

  by : (nat_le p most_processes ≡ true) ⊎ (is_child past p ≡ true) → may_act t p ≡ true
  by (inl few) = ap (λ b. b || is_child t p) few
  by (inr child) =
      let k = some_is_true runs (find (λ (k : Child). k.process == p) (children past)) child in
      right (nat_le p most_processes) (is_child t p)
      (ap (λ cs. some_is runs (find (λ (k : Child). k.process == p) cs)) (children_are past now ks rs ms gs)
      ∙ (ap (λ o. some_is runs o) (found_before (λ (k : Child). k.process == p) (children past) (map new_child ks) k.0 k.1) ∙ k.2))

holdings_are : (past : Trace) (now : ℕ) (ks : List Start) (rs : List JobReply) (ms : List Move) (gs : List Sent) → holdings (stirred past now ks rs ms gs) ≡ holdings past
holdings_are past now ks rs ms gs = append-nil (filter (λ (g : Grant). not (is_ended_by [] g)) (holdings past)) ∙ all_pass (λ (g : Grant). not (is_ended_by [] g)) (holdings past) (λ g. refl)

fewer_resources : (st : Setting) (past : Trace) (now : ℕ) (ks : List Start) (rs : List JobReply) (ms : List Move) (gs : List Sent) → AreEarly rs
    → resource_count st (stirred past now ks rs ms gs) ≤ resource_count st past
fewer_resources st past now ks rs ms gs early =
    subst (λ n. n ≤ resource_count st past) (ap (λ ss. sum_by (λ s. length (lease_spots st past s)) (filter (is_joined t) ss)) (sym (append-nil (sessions st past))))
    (sum_of_fewer (λ s. length (lease_spots st past s)) (is_joined t) (is_joined past) (sessions st past) (λ s. was_joined past now ks rs ms gs s early)) where
      t : Trace
      t = stirred past now ks rs ms gs

runs_by : (o : Option Replied) (q : Option Replied) → is_none (elim o as (λ z. Option Replied) [ Some r ↦ Some r | None ↦ q ]) ≡ true → is_none o ≡ true
runs_by None q is = refl
runs_by (Some r) q is = is

ungranted_by : (a b : Bool) (c d : Bool) → (c ≡ true → d ≡ true) → (a && not d) ≡ true → (a && not c) ≡ true
ungranted_by a b true d more is = absurd (not_both (not d) (and_true a (not d) is).1 (ap (λ e. not e) (more refl)))
ungranted_by a b false d more is = (let h = and_true a (not d) is in ap (λ e. e && true) h.0)

still_granted : (past : Trace) (now : ℕ) (ks : List Start) (rs : List JobReply) (ms : List Move) (gs : List Sent) (j : ℕ) → is_granted_job past j ≡ true → is_granted_job (stirred past now ks rs ms gs) j ≡ true
still_granted past now ks rs ms gs j is = by (find of_it (children past)) refl is where
  of_it : Child → Bool
  of_it k = some_is (λ i. i == j) k.job

  by : (o : Option Child) → find of_it (children past) ≡ o → is_some (option_map (λ (k : Child). k.process) o) ≡ true → is_granted_job (stirred past now ks rs ms gs) j ≡ true
  by None its some = absurd (false_is_true some)
  by (Some k) its some =
      ap (λ cs. is_some (option_map (λ (k : Child). k.process) (find of_it cs))) (children_are past now ks rs ms gs)
      ∙ ap (λ o. is_some (option_map (λ (k : Child). k.process) o)) (found_before of_it (children past) (map new_child ks) k its)

fewer_ungranted : (st : Setting) (past : Trace) (now : ℕ) (ks : List Start) (rs : List JobReply) (ms : List Move) (gs : List Sent)
    → ungranted st (stirred past now ks rs ms gs) is_asking_lease ≤ ungranted st past is_asking_lease
fewer_ungranted st past now ks rs ms gs =
    subst (λ n. n ≤ ungranted st past is_asking_lease)
    (ap (λ js. count_by (λ j. is_command_that is_asking_lease j && not (is_granted_job t j.number)) (filter (λ (j : Job). is_running t j.number) js)) (sym (append-nil (jobs st past))))
    (count_of_fewer (λ j. is_command_that is_asking_lease j && not (is_granted_job t j.number)) (λ (j : Job). is_running t j.number)
    (λ j. is_command_that is_asking_lease j && not (is_granted_job past j.number)) (λ (j : Job). is_running past j.number) (jobs st past)
    (λ j. runs_by (reply_to past j.number) (reply_in j.number past (stirred_entry now ks rs ms gs)))
    (λ j. ungranted_by (is_command_that is_asking_lease j) true (is_granted_job past j.number) (is_granted_job t j.number) (still_granted past now ks rs ms gs j.number))) where
      t : Trace
      t = stirred past now ks rs ms gs

fewer_holders : (st : Setting) (past : Trace) (now : ℕ) (ks : List Start) (rs : List JobReply) (ms : List Move) (gs : List Sent) → holder_count st (stirred past now ks rs ms gs) ≤ holder_count st past
fewer_holders st past now ks rs ms gs =
    let a = ap (λ (hs : List Grant). length hs) (holdings_are past now ks rs ms gs) in
    let b = fewer_ungranted st past now ks rs ms gs in
    by_sum (length (holdings t)) (length (holdings past)) (ungranted st t is_asking_lease) (ungranted st past is_asking_lease) a b where
      t : Trace
      t = stirred past now ks rs ms gs

      by_sum : (h k u v : ℕ) → h ≡ k → u ≤ v → h + u ≤ k + v
      by_sum h k u v same less = omega (arith, same, less)

below_still : (most n m : ℕ) → n ≤ m → nat_le most m ≡ false → nat_le most n ≡ false
below_still most n m less h = grind (arith, tests, less, h)

none_first : {A : Type 0} (b : Bool) (a : A) (o : Option A) → option_or (choose b a) o ≡ None → (b ≡ false) × (o ≡ None)
none_first true a o is = absurd (none_some a (sym is))
none_first false a o is = (refl, is)

unmet : {A : Type 0} (b c : Bool) (x y z : A) → b ≡ false → c ≡ false → option_or (choose b x) (option_or (choose c y) (choose (false && true) z)) ≡ None
unmet true c x y z is its = absurd (false_is_true (sym is))
unmet false true x y z is its = absurd (false_is_true (sym its))
unmet false false x y z is its = refl

still_false : (a b c : Bool) → (b ≡ false → c ≡ false) → (a && b) ≡ false → (a && c) ≡ false
still_false true b c h is = h is
still_false false b c h is = refl

-- No limit is met that was not.
still_room : (st : Setting) (past : Trace) (now : ℕ) (ks : List Start) (rs : List JobReply) (ms : List Move) (gs : List Sent) (s : Session) (at : Spot) → AreEarly rs → limit_met st past s at false ≡ None
    → limit_met st (stirred past now ks rs ms gs) s at false ≡ None
still_room st past now ks rs ms gs s at early is =
    let unlisted : Bool = not (list_any (same_spot at) (lease_spots st past s)) in
    let one = none_first (unlisted && nat_le most_resources (resource_count st past)) Resources
    (option_or (choose (nat_le most_holders (holder_count st past)) Holders) (choose false Children)) is in
    let two = none_first (nat_le most_holders (holder_count st past)) Holders (choose false Children) one.1 in
    unmet (unlisted && nat_le most_resources (resource_count st t)) (nat_le most_holders (holder_count st t)) Resources Holders Children
    (still_false unlisted (nat_le most_resources (resource_count st past)) (nat_le most_resources (resource_count st t))
    (below_still most_resources (resource_count st t) (resource_count st past) (fewer_resources st past now ks rs ms gs early)) one.0)
    (below_still most_holders (holder_count st t) (holder_count st past) (fewer_holders st past now ks rs ms gs) two.0) where
      t : Trace
      t = stirred past now ks rs ms gs

-- ---- all of it

-- The trace before the input, by time alone.
abbrev pub woken : Trace → ℕ → Trace
woken past now = stirred past now [] [] [] []

pub joined_woken : (past : Trace) (now : ℕ) (s : Session) → is_joined (woken past now) s ≡ true → is_joined past s ≡ true
joined_woken past now s = was_joined past now [] [] [] [] s (λ a there. absurd (contains_none a there))

finds : (st : Setting) (past : Trace) (now : ℕ) (text : List ℕ) (r : ResourceArg) (shared : Bool) (p : ℕ) (persistent : Bool) (s : Session) → WholeTrace st past
    → IsQuietBefore st past now text r shared p persistent s → (x : Step) → IsBeforeInput st past now x → AsksQuietly x text r shared p persistent s
finds st past now text r shared p persistent s w q x h =
    record {
      says = ap (λ g. g.read text) h.setting ∙ q.line;
      named = told (λ g t. session_named g t r.lockspace ≡ Some s) (subst (λ n. session_named st t n ≡ Some s) name (still_named st past now ks rs ms gs s w spared there joined));
      joined = subst (λ t. is_joined t s ≡ true) (sym is) still;
      active = told (λ g t. is_active g t s ≡ true) (active_by (is_none (recovery_of st t s)) (is_none (leaving_job st t s)) q.active);
      process = subst (λ t. may_act t p ≡ true) (sym is) (still_acts past now ks rs ms gs p q.process);
      free = subst (λ t. held_here t at ≡ []) (sym is) (ap (λ hs. filter (λ (g : Grant). same_place g.path g.offset at.path at.base) hs) (holdings_are past now ks rs ms gs) ∙ q.free);
      calm = told (λ g t. open_on g t at ≡ []) q.calm;
      room = told (λ g t. limit_met g t s at false ≡ None) (still_room st past now ks rs ms gs s at h.replies q.room);
    } where
      at : Spot
      at = spot_of r

      ks : List Start
      ks = x.effects.starts

      rs : List JobReply
      rs = x.effects.replies

      ms : List Move
      ms = x.effects.moves

      gs : List Sent
      gs = x.effects.signals

      t : Trace
      t = stirred past now ks rs ms gs

      is : seen x ≡ t
      is = bare st past now x h

      told : (P : Setting → Trace → Type 0) → P st t → P x.setting (seen x)
      told P holds = subst (λ g. P g (seen x)) (sym h.setting) (subst (λ u. P st u) (sym is) holds)

      found : Contains (present_sessions st (woken past now)) s × (bytes_eq s.lockspace r.lockspace ≡ true)
      found = find_inside (λ (z : Session). bytes_eq z.lockspace r.lockspace) (present_sessions st (woken past now)) s q.named

      name : s.lockspace ≡ r.lockspace
      name = text_is s.lockspace r.lockspace found.1

      there : Contains (sessions st past) s
      there = subst (λ ss. Contains ss s) (append-nil (sessions st past)) (present_is st (woken past now) s found.0).0

      both : (is_joined (woken past now) s ≡ true) × (is_none (recovery_of st (woken past now) s) ≡ true)
      both = and_true (is_joined (woken past now) s) (is_none (recovery_of st (woken past now) s))
          (and_true (is_joined (woken past now) s && is_none (recovery_of st (woken past now) s)) (is_none (leaving_job st (woken past now) s)) q.active).0

      joined : is_joined past s ≡ true
      joined = joined_woken past now s both.0

      spared : list_any (unregisters s.lockspace) ms ≡ false
      spared = h.early.leaves s (subst (λ u. Contains (sessions x.setting u) s) (sym h.before) (subst (λ g. Contains (sessions g past) s) (sym h.setting) there)) (subst (λ u. is_joined u s ≡ true) (sym h.before) joined)

      still : is_joined t s ≡ true
      still = is_still_joined past now ks rs ms gs s spared joined

      active_by : (b c : Bool) → (is_joined (woken past now) s && b && c) ≡ true → (is_joined t s && b && c) ≡ true
      active_by b c was = (let h = and_true (is_joined (woken past now) s && b) c was in let k = and_true (is_joined (woken past now) s) b h.0 in ap₂ (λ d e. d && b && e) still h.1 ∙ ap (λ d. d && true) k.1)

pub lines_find_quiet : LinesFindQuiet
lines_find_quiet st past now text r shared p persistent s setting host q =
    let w : WholeTrace st past = (traces_hold st past setting host).whole in
    finds st past now text r shared p persistent s w q (begun st past now) (heads_are_early st past now w)

pub starts_read_the_area : StartsReadTheArea
starts_read_the_area w m text r shared p q setting host =
    let st : Setting = q.daemon.setting in
    let past : Trace = q.daemon.trace in
    let now : ℕ = reading_now q.machine in
    let asks = lines_find_quiet st past now text r shared p q.persistent q.session setting host
    (record { line = q.line; process = q.process; named = q.named; active = q.active; free = q.no_holding; calm = q.no_call; room = q.no_limit }) in
    let h : IsBeforeInput st past now (begun st past now) = heads_are_early st past now (traces_hold st past setting host).whole in
    let job : next_job (begun st past now).setting (seen (begun st past now)) ≡ next_job st past =
    ap (λ t. next_job (begun st past now).setting t) (bare st past now (begun st past now) h) ∙ ap (λ (g : Setting). next_job g past) h.setting in
    subst (λ j. DoesAs (due st past now (Line text)) (read_area q.session (spot_of r) (ForJob j) (ReadArea r.name) (with_input (Line text) (begun st past now)))) job
    (lines_begin st past now text r shared p q.persistent q.session asks)
