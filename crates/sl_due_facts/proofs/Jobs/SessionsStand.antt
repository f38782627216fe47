-- How a session stands as a step goes on: joined, in recovery, leaving.
use Rattle.sl_due_facts.proofs.Acts.AddedAtEnd.{any_stays, not_is}
use Rattle.sl_due_facts.specs.Acts.TraceSoFar.{entry_of}
use Rattle.sl_due.specs.Steps.{Step, add_move, add_reply, seen}
use Rattle.sl_due_facts.proofs.Jobs.SessionsHaveJobs.{left_in}
use Rattle.sl_due_facts.proofs.AddedEffects.EffectsAreTold.{effects_are_told}
use Rattle.sl_words.proofs.Lists.{contains_first}
use Rattle.sl_words.proofs.Numbers.{number_itself}
use Rattle.sl_words.proofs.Options.{none_is, some_there}
use Rattle.sl_trace.specs.Sessions.{is_joined, joined_after, leaves, leaving_in, leaving_job, recovers, recovery_of, removed_after, renewed_by, renewing, renewing_after, shows_other}
use Rattle.sl_trace.specs.declared.session.Begun.{Begun}
use Rattle.sl_trace.specs.declared.session.Renewing.{Renewing}
use Rattle.sl_trace.specs.declared.session.Session.{Session}
use Rattle.sl_time.specs.Times.{fail}
use Rattle.sl_trace.specs.WatchdogConnections.{unregisters}
use Rattle.sl_trace.specs.Traces.{Job, Replied, Setting, Trace, is_running, line_in, next_job, reply_in, reply_to}
use Rattle.sl_trace.specs.declared.effects.Entry.{Entry}
use Rattle.sl_trace.specs.declared.effects.JobReply.{JobReply}
use Rattle.sl_trace.specs.declared.effects.Move.{Move}
use Rattle.sl_trace.specs.declared.reply.Reply.{Reply}
use Rattle.sl_run_law.proofs.Sessions.MarksStay.{marks_stay}
use Rattle.sl_words.proofs.CaseLaws.{is_false, none_some, not_both}
use Rattle.sl_words.proofs.OptionLaws.{choose_none}
use Rattle.sl_words.proofs.WordLaws.{and_true, choose_some}
use Rattle.sl_words.specs.Words.{choose}
use Rattle.std.proofs.Common.{ap, ap₂, inl, inr, refl, subst, sym, ◌∙◌}
use Rattle.std.proofs.lemmas.Bool.{eqb-true}
use Rattle.std.proofs.lemmas.List.Folds.{find-append}
use Rattle.std.specs.List.{list_any}
use Rattle.std.specs.Option.{option_or}
use Rattle.std.specs.Prelude.{Bool, Contains, List, None, Option, Some, [], cond, false, find, is_none, is_some, length, nat_le, not, option_map, true, unwrap_or, ℕ, ◌&&◌, ◌++◌, ◌+◌, ◌==◌, ◌∷◌, ◌≡◌, ◌⊎◌}

-- ---- joined

-- A session in recovery was joined before the entry.
recovering_by : (st : Setting) (es : Trace) (s : Session) (r : Renewing) (e : Entry) (b : Begun) → (renewing_after st es s r e).recovery ≡ Some b → (r.recovery ≡ Some b) ⊎ (is_joined es s ≡ true)
recovering_by st es s r e b is = by r.recovery refl is where
  by_read : (o : Bool) → (is_joined es s && shows_other st es s e.input) ≡ o → r.recovery ≡ None
      → (elim o as (λ z. Renewing) [ true ↦ recovers es e (length es + 1) r | false ↦ record { last = unwrap_or (renewed_by es s e.input) r.last; recovery = r.recovery } ]).recovery ≡ Some b → (r.recovery ≡ Some b) ⊎ (is_joined es s ≡ true)
  by_read true shows none h = inr (and_true (is_joined es s) (shows_other st es s e.input) shows).0
  by_read false shows none h = inl h

  by_time : (o : Bool) → (is_joined es s && nat_le (r.last + fail st.timing) e.reading) ≡ o → r.recovery ≡ None
      → (elim o as (λ z. Renewing) [
        | true ↦ recovers es e (length es) r
        | false ↦ elim (is_joined es s && shows_other st es s e.input) as (λ z. Renewing) [ true ↦ recovers es e (length es + 1) r | false ↦ record { last = unwrap_or (renewed_by es s e.input) r.last; recovery = r.recovery } ]
      ]).recovery ≡ Some b → (r.recovery ≡ Some b) ⊎ (is_joined es s ≡ true)
  by_time true late_one none h = inr (and_true (is_joined es s) (nat_le (r.last + fail st.timing) e.reading) late_one).0
  by_time false late_one none h = by_read (is_joined es s && shows_other st es s e.input) refl none h

  by : (o : Option Begun) → r.recovery ≡ o
      → (elim o as (λ z. Renewing) [
        | Some c ↦ r
        | None ↦ elim (is_joined es s && nat_le (r.last + fail st.timing) e.reading) as (λ z. Renewing) [
          | true ↦ recovers es e (length es) r
          | false ↦ elim (is_joined es s && shows_other st es s e.input) as (λ z. Renewing) [ true ↦ recovers es e (length es + 1) r | false ↦ record { last = unwrap_or (renewed_by es s e.input) r.last; recovery = r.recovery } ]
        ]
      ]).recovery ≡ Some b → (r.recovery ≡ Some b) ⊎ (is_joined es s ≡ true)
  by (Some c) was h = inl h
  by None was h = by_time (is_joined es s && nat_le (r.last + fail st.timing) e.reading) refl was h

pub joined_then : (es : Trace) (s : Session) → is_joined es s ≡ true → is_some (joined_after es s) ≡ true
joined_then es s is = (and_true (is_some (joined_after es s)) (is_none (removed_after es s)) is).0

-- Where recovery has begun by an entry's end the session was joined before it.
pub recovery_joined : (st : Setting) (e : Entry) (es : Trace) (s : Session) (b : Begun) → recovery_of st (e ∷ es) s ≡ Some b → is_some (joined_after es s) ≡ true
recovery_joined st e [] s b is = by (recovering_by st [] s (renewing st [] s) e b is) where
  by : (None ≡ Some b) ⊎ (is_joined [] s ≡ true) → is_some (joined_after [] s) ≡ true
  by (inl none) = absurd (none_some b none)
  by (inr joined) = joined_then [] s joined
recovery_joined st e (d ∷ es) s b is = by (recovering_by st (d ∷ es) s (renewing st (d ∷ es) s) e b is) (λ was. recovery_joined st d es s b was) where
  by : (recovery_of st (d ∷ es) s ≡ Some b) ⊎ (is_joined (d ∷ es) s ≡ true) → (recovery_of st (d ∷ es) s ≡ Some b → is_some (joined_after es s) ≡ true) → is_some (joined_after (d ∷ es) s) ≡ true
  by (inr joined) more = joined_then (d ∷ es) s joined
  by (inl was) more =
      let before = some_there (joined_after es s) (more was) in ap (λ o. is_some o) (marks_stay.joined (d ∷ []) es s before.0 before.1)

-- So was a session that leaves.
pub leaving_joined : (st : Setting) (e : Entry) (es : Trace) (s : Session) (k : Job) → leaving_job st (e ∷ es) s ≡ Some k → is_some (joined_after es s) ≡ true
leaving_joined st e [] s k is = joined_then [] s (left_in st [] s e k is).4
leaving_joined st e (d ∷ es) s k is = by (leaving_job st (d ∷ es) s) refl is (λ was. leaving_joined st d es s k was) where
  by : (o : Option Job) → leaving_job st (d ∷ es) s ≡ o → (elim o as (λ z. Option Job) [ Some j ↦ Some j | None ↦ leaving_in st (d ∷ es) s e ]) ≡ Some k
      → (leaving_job st (d ∷ es) s ≡ Some k → is_some (joined_after es s) ≡ true) → is_some (joined_after (d ∷ es) s) ≡ true
  by (Some j) was h more =
      let before = some_there (joined_after es s) (more (was ∙ h)) in ap (λ o. is_some o) (marks_stay.joined (d ∷ []) es s before.0 before.1)
  by None was h more = joined_then (d ∷ es) s (left_in st (d ∷ es) s e k h).4

-- ---- by a move or a reply

-- Whether the session is joined, where it was before the entry.
joined_by_parts : (e : Entry) (es : Trace) (s : Session) → is_some (joined_after es s) ≡ true → is_joined (e ∷ es) s ≡ is_none (removed_after (e ∷ es) s)
joined_by_parts e es s was =
    let before = some_there (joined_after es s) was in
    let now = marks_stay.joined (e ∷ []) es s before.0 before.1 in ap (λ o. is_some o && is_none (removed_after (e ∷ es) s)) now

pub move_joined : (y : Step) (m : Move) (s : Session) → is_joined (seen (add_move m y)) s ≡ true → is_joined (seen y) s ≡ true
move_joined y m s is = by (removed_after y.past s) (is_some (joined_after y.past s)) (joined_after (seen y) s) is where
  by : (o : Option ℕ) (was : Bool) (joined : Option ℕ)
      → (is_some joined && is_none (elim o as (λ z. Option ℕ) [ Some k ↦ Some k | None ↦ choose (was && list_any (unregisters s.lockspace) (y.effects.moves ++ m ∷ [])) (length y.past + 1) ])) ≡ true
      → (is_some joined && is_none (elim o as (λ z. Option ℕ) [ Some k ↦ Some k | None ↦ choose (was && list_any (unregisters s.lockspace) y.effects.moves) (length y.past + 1) ])) ≡ true
  by (Some k) was joined h = h
  by None false joined h = h
  by None true joined h =
      let both = and_true (is_some joined) (is_none (choose (list_any (unregisters s.lockspace) (y.effects.moves ++ m ∷ [])) (length y.past + 1))) h in
      let gone : list_any (unregisters s.lockspace) y.effects.moves ≡ false = fewer (choose_none (list_any (unregisters s.lockspace) (y.effects.moves ++ m ∷ [])) (length y.past + 1) (none_is (choose (list_any (unregisters s.lockspace) (y.effects.moves ++ m ∷ [])) (length y.past + 1)) both.1)) in
      ap₂ (λ a b. a && is_none (choose b (length y.past + 1))) both.0 gone
    where
      fewer : list_any (unregisters s.lockspace) (y.effects.moves ++ m ∷ []) ≡ false → list_any (unregisters s.lockspace) y.effects.moves ≡ false
      fewer h = is_false (list_any (unregisters s.lockspace) y.effects.moves) (λ some_one. not_both (list_any (unregisters s.lockspace) (y.effects.moves ++ m ∷ [])) (any_stays (unregisters s.lockspace) y.effects.moves m some_one) h)

-- A reply does not join a session that was joined before the entry.
pub reply_joined : (y : Step) (j : ℕ) (r : Reply) (s : Session) → is_some (joined_after y.past s) ≡ true → is_joined (seen (add_reply j r y)) s ≡ is_joined (seen y) s
reply_joined y j r s was = joined_by_parts (entry_of (add_reply j r y)) y.past s was ∙ sym (joined_by_parts (entry_of y) y.past s was)

-- A reply may undo a leaving, and makes none.
pub reply_leaving : (y : Step) (j : ℕ) (r : Reply) (s : Session) (k : Job) → leaving_job y.setting (seen (add_reply j r y)) s ≡ Some k → leaving_job y.setting (seen y) s ≡ Some k
reply_leaving y j r s k is = by (leaving_job y.setting y.past s) is where
  chosen : (text : List ℕ) → choose (is_joined y.past s && not (list_any (λ (a : JobReply). a.job == next_job y.setting y.past) (y.effects.replies ++ record { job = j; reply = r } ∷ []))) (record { number = next_job y.setting y.past; at = length y.past; reading = y.reading; command = y.setting.read text }) ≡ Some k
      → choose (is_joined y.past s && not (list_any (λ (a : JobReply). a.job == next_job y.setting y.past) y.effects.replies)) (record { number = next_job y.setting y.past; at = length y.past; reading = y.reading; command = y.setting.read text }) ≡ Some k
  chosen text h =
      let p : JobReply → Bool = λ a. a.job == next_job y.setting y.past in
      let more : List JobReply = y.effects.replies ++ record { job = j; reply = r } ∷ [] in
      let c = choose_some (is_joined y.past s && not (list_any p more)) (record { number = next_job y.setting y.past; at = length y.past; reading = y.reading; command = y.setting.read text }) k h in
      let both = and_true (is_joined y.past s) (not (list_any p more)) c.0 in
      let none : list_any p y.effects.replies ≡ false =
      is_false (list_any p y.effects.replies) (λ one. not_both (list_any p more) (any_stays p y.effects.replies (record { job = j; reply = r }) one) (not_is (list_any p more) both.1)) in
      ap₂ (λ a b. choose (a && not b) (record { number = next_job y.setting y.past; at = length y.past; reading = y.reading; command = y.setting.read text })) both.0 none ∙ ap (λ z. Some z) c.1

  by_leaves : (text : List ℕ) (b : Bool)
      → (elim b as (λ z. Option Job) [ false ↦ None | true ↦ choose (is_joined y.past s && not (list_any (λ (a : JobReply). a.job == next_job y.setting y.past) (y.effects.replies ++ record { job = j; reply = r } ∷ []))) (record { number = next_job y.setting y.past; at = length y.past; reading = y.reading; command = y.setting.read text }) ]) ≡ Some k
      → (elim b as (λ z. Option Job) [ false ↦ None | true ↦ choose (is_joined y.past s && not (list_any (λ (a : JobReply). a.job == next_job y.setting y.past) y.effects.replies)) (record { number = next_job y.setting y.past; at = length y.past; reading = y.reading; command = y.setting.read text }) ]) ≡ Some k
  by_leaves text false h = h
  by_leaves text true h = chosen text h

  by_line : (o : Option (List ℕ))
      → (elim o as (λ z. Option Job) [ None ↦ None | Some text ↦ elim (leaves s (y.setting.read text)) as (λ z. Option Job) [ false ↦ None | true ↦ choose (is_joined y.past s && not (list_any (λ (a : JobReply). a.job == next_job y.setting y.past) (y.effects.replies ++ record { job = j; reply = r } ∷ []))) (record { number = next_job y.setting y.past; at = length y.past; reading = y.reading; command = y.setting.read text }) ] ]) ≡ Some k
      → (elim o as (λ z. Option Job) [ None ↦ None | Some text ↦ elim (leaves s (y.setting.read text)) as (λ z. Option Job) [ false ↦ None | true ↦ choose (is_joined y.past s && not (list_any (λ (a : JobReply). a.job == next_job y.setting y.past) y.effects.replies)) (record { number = next_job y.setting y.past; at = length y.past; reading = y.reading; command = y.setting.read text }) ] ]) ≡ Some k
  by_line None h = h
  by_line (Some text) h = by_leaves text (leaves s (y.setting.read text)) h

  by : (o : Option Job) → (elim o as (λ z. Option Job) [ Some a ↦ Some a | None ↦ leaving_in y.setting y.past s (entry_of (add_reply j r y)) ]) ≡ Some k
      → (elim o as (λ z. Option Job) [ Some a ↦ Some a | None ↦ leaving_in y.setting y.past s (entry_of y) ]) ≡ Some k
  by (Some a) h = h
  by None h = by_line (line_in y.input) h

-- ---- jobs under a session

pub no_members : {A : Type 0} (xs : List A) → ((d : A) → Contains xs d → ⊥) → xs ≡ []
no_members [] h = refl
no_members (x ∷ xs) h = absurd (h x (contains_first x xs))

-- A reply ends its job.
pub reply_stops : (y : Step) (j : ℕ) (r : Reply) → is_running (seen (add_reply j r y)) j ≡ false
reply_stops y j r = by (reply_to y.past j) where
  told : JobReply → Replied
  told a = record { at = length y.past; reply = a.reply }

  found : find (λ (a : JobReply). a.job == j) (y.effects.replies ++ record { job = j; reply = r } ∷ []) ≡ option_or (find (λ (a : JobReply). a.job == j) y.effects.replies) (Some (record { job = j; reply = r }))
  found = find-append (λ (a : JobReply). a.job == j) y.effects.replies (record { job = j; reply = r } ∷ [])
      ∙ ap (λ b. option_or (find (λ (a : JobReply). a.job == j) y.effects.replies) (cond b (Some (record { job = j; reply = r })) None)) (number_itself j)

  some_one : (o : Option JobReply) → is_none (option_map told (option_or o (Some (record { job = j; reply = r })))) ≡ false
  some_one None = refl
  some_one (Some a) = refl

  by : (o : Option Replied) → is_none (elim o as (λ z. Option Replied) [ Some a ↦ Some a | None ↦ reply_in j y.past (entry_of (add_reply j r y)) ]) ≡ false
  by (Some a) = refl
  by None = ap (λ o. is_none (option_map told o)) found ∙ some_one (find (λ (a : JobReply). a.job == j) y.effects.replies)

-- A reply stays.
pub stopped_stays : (y : Step) (j : ℕ) (r : Reply) (n : ℕ) → is_running (seen y) n ≡ false → is_running (seen (add_reply j r y)) n ≡ false
stopped_stays y j r n stops = by (j == n) refl where
  by : (b : Bool) → (j == n) ≡ b → is_running (seen (add_reply j r y)) n ≡ false
  by true is = subst (λ k. is_running (seen (add_reply j r y)) k ≡ false) (eqb-true j n is) (reply_stops y j r)
  by false is = ap (λ o. is_none o) (effects_are_told.other_replies (record { job = j; reply = r }) (entry_of y) y.past n is) ∙ stops

-- A job that a reply leaves running ran before.
pub running_before : (y : Step) (j : ℕ) (r : Reply) (n : ℕ) → is_running (seen (add_reply j r y)) n ≡ true → is_running (seen y) n ≡ true
running_before y j r n runs = by (is_running (seen y) n) refl where
  by : (b : Bool) → is_running (seen y) n ≡ b → is_running (seen y) n ≡ true
  by true is = is
  by false is = absurd (not_both (is_running (seen (add_reply j r y)) n) runs (stopped_stays y j r n is))
