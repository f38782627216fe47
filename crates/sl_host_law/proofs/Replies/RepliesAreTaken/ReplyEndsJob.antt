-- What one more reply changes of a trace: its job runs no more, and the session of a joining by it is joined or refused. Calls, leavings and
-- kill programs are as they were, where it changes nothing of what the input has done.
use Rattle.sl_words.proofs.Numbers.{number_turned}
use Rattle.sl_words.proofs.Options.{none_is}
use Rattle.sl_host_law.proofs.Replies.PlainFilters.{map_where}
use Rattle.sl_host_law.proofs.Replies.PlainNumbers.{number_apart, same_number}
use Rattle.sl_host_law.specs.Replies.Answers.{IsOfOther}
use Rattle.sl_host_law.specs.Replies.RepliesAreTaken.{LeavesHeed, is_plain_line}
use Rattle.sl_trace.specs.Sessions.{is_join_done, is_joined, joined_after, leaves, leaving_in, leaving_job, refused_after}
use Rattle.sl_trace.specs.declared.session.Session.{Session}
use Rattle.sl_trace.specs.Traces.{Job, Replied, Setting, Submitted, Trace, answered_in, exited_by, is_before_input, is_going_on, is_of_job, is_running, job_of, mark, new_call, next_job, reply_to, submitted}
use Rattle.sl_trace.specs.KillPrograms.{KillProgram, is_done, kill_program_in, kill_programs, program_set_in, with_program, without_program}
use Rattle.sl_trace.specs.declared.command.Command.TheVariants.{RemLockspace, SetKillpath}
use Rattle.sl_trace.specs.declared.command.Command.{Command}
use Rattle.sl_trace.specs.declared.effects.Call.{Call}
use Rattle.sl_trace.specs.declared.effects.Effects.{Effects}
use Rattle.sl_trace.specs.declared.effects.Entry.{Entry}
use Rattle.sl_trace.specs.declared.effects.JobReply.{JobReply}
use Rattle.sl_trace.specs.declared.input.Answer.{Answer}
use Rattle.sl_trace.specs.declared.input.Input.TheVariants.{Answer as Told, Exit, Line, Number, Spawned, Wake}
use Rattle.sl_trace.specs.declared.input.Input.{Input}
use Rattle.sl_trace.specs.declared.reply.Reply.{Reply}
use Rattle.sl_words.proofs.CaseLaws.{true_is_false}
use Rattle.sl_words.specs.Words.{choose, some_is}
use Rattle.std.proofs.Common.{ap, inl, inr, refl, subst, sym, ◌∙◌}
use Rattle.std.specs.List.{list_any}
use Rattle.std.specs.Option.{option_or}
use Rattle.std.specs.Prelude.{Bool, Contains, List, None, Ok, Option, Result, Some, cond, false, find, fold, is_none, length, not, option_and_then, option_map, true, [], ℕ, ◌&&◌, ◌++◌, ◌+◌, ◌==◌, ◌∷◌, ◌≡◌, ◌||◌, ◌⊎◌}

abbrev pub said : ℕ → Reply → JobReply
said job r = record { job = job; reply = r }

any_more : {A : Type 0} (p : A → Bool) (xs : List A) (a : A) → p a ≡ false → list_any p (xs ++ a ∷ []) ≡ list_any p xs
any_more p [] a is = ap (λ b. b || false) is
any_more p (x ∷ xs) a is = ap (λ b. p x || b) (any_more p xs a is)

found_more : (n : ℕ) (rs : List JobReply) (a : JobReply) → (a.job == n) ≡ false → find (λ b. b.job == n) (rs ++ a ∷ []) ≡ find (λ b. b.job == n) rs
found_more n [] a other = ap (λ b. cond b (Some a) None) other
found_more n (b ∷ rs) a other = ap (λ o. cond (b.job == n) (Some b) o) (found_more n rs a other)

found_last : (n : ℕ) (rs : List JobReply) (a : JobReply) → (a.job == n) ≡ true → find (λ b. b.job == n) rs ≡ None → find (λ b. b.job == n) (rs ++ a ∷ []) ≡ Some a
found_last n [] a its none = ap (λ b. cond b (Some a) None) its
found_last n (b ∷ rs) a its none = by (b.job == n) none (λ rest. found_last n rs a its rest) where
  by : (t : Bool) → cond t (Some b) (find (λ b. b.job == n) rs) ≡ None → (find (λ b. b.job == n) rs ≡ None → find (λ b. b.job == n) (rs ++ a ∷ []) ≡ Some a)
      → cond t (Some b) (find (λ b. b.job == n) (rs ++ a ∷ [])) ≡ Some a
  by true is deeper = absurd cc
  by false is deeper = deeper is

module _ (past : Trace) (now : ℕ) (i : Input) (fx : Effects) (job : ℕ) (r : Reply) where
  -- The entry of the step, before the reply and with it.
  abbrev pub unsaid : Entry
  unsaid = record { reading = now; input = i; effects = fx }

  abbrev pub replied : Entry
  replied = record { reading = now; input = i; effects = record fx { replies = fx.replies ++ said job r ∷ [] } }

  -- ---- replies

  pub reply_stays : (k : ℕ) → (job == k) ≡ false → reply_to (replied ∷ past) k ≡ reply_to (unsaid ∷ past) k
  reply_stays k other =
      ap (λ o. elim (reply_to past k) as (λ z. Option Replied) [ Some q ↦ Some q | None ↦ option_map (λ (a : JobReply). record { at = length past; reply = a.reply }) o ])
      (found_more k fx.replies (said job r) other)

  none_before : (k : ℕ) → reply_to (unsaid ∷ past) k ≡ None → (reply_to past k ≡ None) × (find (λ a. a.job == k) fx.replies ≡ None)
  none_before k none = by (reply_to past k) refl (find (λ (a : JobReply). a.job == k) fx.replies) refl none where
    by : (o : Option Replied) → reply_to past k ≡ o → (p : Option JobReply) → find (λ a. a.job == k) fx.replies ≡ p
        → elim o as (λ z. Option Replied) [ Some q ↦ Some q | None ↦ option_map (λ (a : JobReply). record { at = length past; reply = a.reply }) p ] ≡ None
        → (reply_to past k ≡ None) × (find (λ a. a.job == k) fx.replies ≡ None)
    by None is None has h = (is, has)
    by None is (Some a) has h = absurd cc
    by (Some q) is p has h = absurd cc

  pub reply_comes : (k : ℕ) → (job == k) ≡ true → reply_to (unsaid ∷ past) k ≡ None → reply_to (replied ∷ past) k ≡ Some (record { at = length past; reply = r })
  reply_comes k its none =
      let both = none_before k none in
      ap (λ o. elim o as (λ z. Option Replied) [ Some q ↦ Some q | None ↦ option_map (λ (a : JobReply). record { at = length past; reply = a.reply }) (find (λ a. a.job == k) (fx.replies ++ said job r ∷ [])) ]) both.0
      ∙ ap (option_map (λ (a : JobReply). record { at = length past; reply = a.reply })) (found_last k fx.replies (said job r) its both.1)

  pub runs_still : (k : ℕ) → is_running (unsaid ∷ past) job ≡ true → is_running (replied ∷ past) k ≡ (is_running (unsaid ∷ past) k && not (job == k))
  runs_still k runs = by (job == k) refl where
    and_true : (b : Bool) → b ≡ (b && true)
    and_true true = refl
    and_true false = refl

    and_false : (b : Bool) → false ≡ (b && false)
    and_false true = refl
    and_false false = refl

    by : (b : Bool) → (job == k) ≡ b → is_running (replied ∷ past) k ≡ (is_running (unsaid ∷ past) k && not b)
    by false other = ap is_none (reply_stays k other) ∙ and_true (is_running (unsaid ∷ past) k)
    by true its = ap is_none (reply_comes k its (none_is (reply_to (unsaid ∷ past) k) (ap (λ n. is_running (unsaid ∷ past) n) (sym (same_number job k its)) ∙ runs))) ∙ and_false (is_running (unsaid ∷ past) k)

  -- ---- joinings

  -- Whether the job is the session's joining.
  abbrev pub is_its : Session → Bool
  is_its s = some_is (λ j. j == job) s.job

  pub joined_stays : (s : Session) → is_its s ≡ false → joined_after (replied ∷ past) s ≡ joined_after (unsaid ∷ past) s
  joined_stays s = by s.job where
    by : (o : Option ℕ) → some_is (λ j. j == job) o ≡ false
        → elim o as (λ z. Option ℕ) [ None ↦ Some 0 | Some j ↦ option_and_then (λ q. choose (is_join_done q.reply) (q.at + 1)) (reply_to (replied ∷ past) j) ]
        ≡ elim o as (λ z. Option ℕ) [ None ↦ Some 0 | Some j ↦ option_and_then (λ q. choose (is_join_done q.reply) (q.at + 1)) (reply_to (unsaid ∷ past) j) ]
    by None other = refl
    by (Some j) other = ap (option_and_then (λ q. choose (is_join_done q.reply) (q.at + 1))) (reply_stays j (number_apart j job other))

  pub refused_stays : (s : Session) → is_its s ≡ false → refused_after (replied ∷ past) s ≡ refused_after (unsaid ∷ past) s
  refused_stays s = by s.job where
    by : (o : Option ℕ) → some_is (λ j. j == job) o ≡ false
        → elim o as (λ z. Option ℕ) [ None ↦ None | Some j ↦ option_and_then (λ q. choose (not (is_join_done q.reply)) (q.at + 1)) (reply_to (replied ∷ past) j) ]
        ≡ elim o as (λ z. Option ℕ) [ None ↦ None | Some j ↦ option_and_then (λ q. choose (not (is_join_done q.reply)) (q.at + 1)) (reply_to (unsaid ∷ past) j) ]
    by None other = refl
    by (Some j) other = ap (option_and_then (λ q. choose (not (is_join_done q.reply)) (q.at + 1))) (reply_stays j (number_apart j job other))

  -- The job's own session was neither joined nor refused, before this step either.
  pub record IsOwnJoining (s : Session) : Type 0 where
    pub not_joined : joined_after (unsaid ∷ past) s ≡ None
    pub not_refused : refused_after (unsaid ∷ past) s ≡ None
    pub joins : joined_after (replied ∷ past) s ≡ choose (is_join_done r) (length past + 1)
    pub refuses : refused_after (replied ∷ past) s ≡ choose (not (is_join_done r)) (length past + 1)

  pub own_joining : (s : Session) → is_its s ≡ true → is_running (unsaid ∷ past) job ≡ true → IsOwnJoining s
  own_joining s its runs = by s.job refl its where
    by : (o : Option ℕ) → s.job ≡ o → some_is (λ j. j == job) o ≡ true → IsOwnJoining s
    by None has is = absurd (true_is_false (sym is))
    by (Some j) has is =
        let same : j ≡ job = same_number j job is in
        let none : reply_to (unsaid ∷ past) j ≡ None = none_is (reply_to (unsaid ∷ past) j) (ap (λ n. is_running (unsaid ∷ past) n) same ∙ runs) in
        let comes = reply_comes j (number_turned j job is) none in
        record {
          not_joined = ap (λ o. elim o as (λ z. Option ℕ) [ None ↦ Some 0 | Some j ↦ option_and_then (λ q. choose (is_join_done q.reply) (q.at + 1)) (reply_to (unsaid ∷ past) j) ]) has
              ∙ ap (option_and_then (λ (q : Replied). choose (is_join_done q.reply) (q.at + 1))) none;
          not_refused = ap (λ o. elim o as (λ z. Option ℕ) [ None ↦ None | Some j ↦ option_and_then (λ q. choose (not (is_join_done q.reply)) (q.at + 1)) (reply_to (unsaid ∷ past) j) ]) has
              ∙ ap (option_and_then (λ (q : Replied). choose (not (is_join_done q.reply)) (q.at + 1))) none;
          joins = ap (λ o. elim o as (λ z. Option ℕ) [ None ↦ Some 0 | Some j ↦ option_and_then (λ q. choose (is_join_done q.reply) (q.at + 1)) (reply_to (replied ∷ past) j) ]) has
              ∙ ap (option_and_then (λ (q : Replied). choose (is_join_done q.reply) (q.at + 1))) comes;
          refuses = ap (λ o. elim o as (λ z. Option ℕ) [ None ↦ None | Some j ↦ option_and_then (λ q. choose (not (is_join_done q.reply)) (q.at + 1)) (reply_to (replied ∷ past) j) ]) has
              ∙ ap (option_and_then (λ (q : Replied). choose (not (is_join_done q.reply)) (q.at + 1))) comes;
        }

  -- ---- calls

  goes_on : (k : Option ℕ) → (is_before_input r ≡ false) ⊎ (some_is (λ j. j == job) k ≡ false) → is_going_on past replied k ≡ is_going_on past unsaid k
  goes_on None either = refl
  goes_on (Some k) either = ap (λ b. is_running past k && not b) (any_more (λ (a : JobReply). a.job == k && is_before_input a.reply) fx.replies (said job r) (by either)) where
    never : (b : Bool) → (b && false) ≡ false
    never true = refl
    never false = refl

    by : (is_before_input r ≡ false) ⊎ ((k == job) ≡ false) → ((job == k) && is_before_input r) ≡ false
    by (inl late) = ap (λ b. (job == k) && b) late ∙ never (job == k)
    by (inr other) = ap (λ b. b && is_before_input r) (number_apart k job other)

  marks_stay : (j : Input) (ms : List Submitted) → ((number : ℕ) (a : Answer) → j ≡ Told number a → (d : Submitted) → Contains ms d → (d.call.number == number) ≡ true → (is_before_input r ≡ false) ⊎ (is_of_job job d ≡ false))
      → mark past replied j ms ≡ mark past unsaid j ms
  marks_stay (Told number a) ms leaves = map_where (answered_in past replied number a) (answered_in past unsaid number a) ms (λ d there. by d (d.call.number == number) (leaves number a refl d there)) where
    by : (d : Submitted) (b : Bool) → (b ≡ true → (is_before_input r ≡ false) ⊎ (is_of_job job d ≡ false))
        → elim b as (λ z. Submitted) [ false ↦ d | true ↦ record d { answer = option_or d.answer (Some (record { at = length past; reading = now; answer = a; heeded = is_going_on past replied (job_of d.call.purpose) })) } ]
        ≡ elim b as (λ z. Submitted) [ false ↦ d | true ↦ record d { answer = option_or d.answer (Some (record { at = length past; reading = now; answer = a; heeded = is_going_on past unsaid (job_of d.call.purpose) })) } ]
    by d false leaves = refl
    by d true leaves = ap (λ g. record d { answer = option_or d.answer (Some (record { at = length past; reading = now; answer = a; heeded = g })) }) (goes_on (job_of d.call.purpose) (leaves refl))
  marks_stay (Line text) ms leaves = refl
  marks_stay (Number text) ms leaves = refl
  marks_stay (Exit p) ms leaves = refl
  marks_stay (Spawned p ok) ms leaves = refl
  marks_stay Wake ms leaves = refl

  heed_of : LeavesHeed i job r past → (number : ℕ) (a : Answer) → i ≡ Told number a → (d : Submitted) → Contains (submitted past) d → (d.call.number == number) ≡ true → (is_before_input r ≡ false) ⊎ (is_of_job job d ≡ false)
  heed_of leaves number a is d there its = by (subst (λ j. LeavesHeed j job r past) is leaves) where
    by : (is_before_input r ≡ false) ⊎ IsOfOther number job past → (is_before_input r ≡ false) ⊎ (is_of_job job d ≡ false)
    by (inl late) = inl late
    by (inr other) = inr (other d there its)

  pub calls_stay : LeavesHeed i job r past → submitted (replied ∷ past) ≡ submitted (unsaid ∷ past)
  calls_stay leaves = ap (λ ms. fold (λ (ns : List Submitted) (c : Call). new_call (length past) now c ∷ ns) ms fx.calls) (marks_stay i (submitted past) (heed_of leaves))

  -- ---- leavings and kill programs

  no_leaving : (s : Session) (c : Result Command ℕ) → is_plain_line c ≡ true → leaves s c ≡ false
  no_leaving s (Ok (RemLockspace a)) plain = absurd (true_is_false (sym plain))
  no_leaving s (Ok (SetKillpath p path)) plain = absurd (true_is_false (sym plain))
  no_leaving s c plain = refl

  no_program : (c : Result Command ℕ) → is_plain_line c ≡ true → kill_program_in c ≡ None
  no_program (Ok (RemLockspace a)) plain = absurd (true_is_false (sym plain))
  no_program (Ok (SetKillpath p path)) plain = absurd (true_is_false (sym plain))
  no_program c plain = refl

  -- The reply is not to the job of this line, or the line is plain.
  abbrev pub LeavesText : Setting → Type 0
  LeavesText st = (text : List ℕ) → i ≡ Line text → ((job == next_job st past) ≡ false) ⊎ (is_plain_line (st.read text) ≡ true)

  pub leaving_stays : (st : Setting) (s : Session) → LeavesText st → leaving_job st (replied ∷ past) s ≡ leaving_job st (unsaid ∷ past) s
  leaving_stays st s plain = ap (λ o. elim (leaving_job st past s) as (λ z. Option Job) [ Some j ↦ Some j | None ↦ o ]) (by i plain) where
    of_line : (text : List ℕ) → ((job == next_job st past) ≡ false) ⊎ (is_plain_line (st.read text) ≡ true)
        → elim (leaves s (st.read text)) as (λ z. Option Job) [
          | false ↦ None
          | true ↦ choose (is_joined past s && not (list_any (λ a. a.job == next_job st past) (fx.replies ++ said job r ∷ []))) (record { number = next_job st past; at = length past; reading = now; command = st.read text })
        ]
        ≡ elim (leaves s (st.read text)) as (λ z. Option Job) [
          | false ↦ None
          | true ↦ choose (is_joined past s && not (list_any (λ a. a.job == next_job st past) fx.replies)) (record { number = next_job st past; at = length past; reading = now; command = st.read text })
        ]
    of_line text (inl other) =
        ap (λ b. elim (leaves s (st.read text)) as (λ z. Option Job) [
          | false ↦ None
          | true ↦ choose (is_joined past s && not b) (record { number = next_job st past; at = length past; reading = now; command = st.read text })
        ]) (any_more (λ (a : JobReply). a.job == next_job st past) fx.replies (said job r) other)
    of_line text (inr is) =
        ap (λ t. elim t as (λ z. Option Job) [
          | false ↦ None
          | true ↦ choose (is_joined past s && not (list_any (λ a. a.job == next_job st past) (fx.replies ++ said job r ∷ []))) (record { number = next_job st past; at = length past; reading = now; command = st.read text })
        ]) (no_leaving s (st.read text) is)
        ∙ sym (ap (λ t. elim t as (λ z. Option Job) [
          | false ↦ None
          | true ↦ choose (is_joined past s && not (list_any (λ a. a.job == next_job st past) fx.replies)) (record { number = next_job st past; at = length past; reading = now; command = st.read text })
        ]) (no_leaving s (st.read text) is))

    by : (j : Input) → ((text : List ℕ) → j ≡ Line text → ((job == next_job st past) ≡ false) ⊎ (is_plain_line (st.read text) ≡ true))
        → leaving_in st past s (record replied { input = j }) ≡ leaving_in st past s (record unsaid { input = j })
    by (Line text) each = of_line text (each text refl)
    by (Number text) each = refl
    by (Told number a) each = refl
    by (Exit p) each = refl
    by (Spawned p ok) each = refl
    by Wake each = refl

  pub programs_stay : (st : Setting) → LeavesText st → kill_programs st (replied ∷ past) ≡ kill_programs st (unsaid ∷ past)
  programs_stay st plain = ap (λ o. with_program o (without_program (exited_by i) (kill_programs st past))) (by i plain) where
    of_line : (text : List ℕ) → ((job == next_job st past) ≡ false) ⊎ (is_plain_line (st.read text) ≡ true)
        → option_and_then (λ k. choose (some_is (λ (q : Replied). is_done q.reply) (option_map (λ a. record { at = length past; reply = a.reply }) (find (λ a. a.job == next_job st past) (fx.replies ++ said job r ∷ [])))) k) (kill_program_in (st.read text))
        ≡ option_and_then (λ k. choose (some_is (λ (q : Replied). is_done q.reply) (option_map (λ a. record { at = length past; reply = a.reply }) (find (λ a. a.job == next_job st past) fx.replies))) k) (kill_program_in (st.read text))
    of_line text (inl other) =
        ap (λ o. option_and_then (λ k. choose (some_is (λ (q : Replied). is_done q.reply) (option_map (λ (a : JobReply). record { at = length past; reply = a.reply }) o)) k) (kill_program_in (st.read text))) (found_more (next_job st past) fx.replies (said job r) other)
    of_line text (inr is) =
        ap (option_and_then (λ (k : KillProgram). choose (some_is (λ (q : Replied). is_done q.reply) (option_map (λ (a : JobReply). record { at = length past; reply = a.reply }) (find (λ a. a.job == next_job st past) (fx.replies ++ said job r ∷ [])))) k)) (no_program (st.read text) is)
        ∙ sym (ap (option_and_then (λ (k : KillProgram). choose (some_is (λ (q : Replied). is_done q.reply) (option_map (λ (a : JobReply). record { at = length past; reply = a.reply }) (find (λ a. a.job == next_job st past) fx.replies))) k)) (no_program (st.read text) is))

    by : (j : Input) → ((text : List ℕ) → j ≡ Line text → ((job == next_job st past) ≡ false) ⊎ (is_plain_line (st.read text) ≡ true))
        → program_set_in st past (record replied { input = j }) ≡ program_set_in st past (record unsaid { input = j })
    by (Line text) each = of_line text (each text refl)
    by (Number text) each = refl
    by (Told number a) each = refl
    by (Exit p) each = refl
    by (Spawned p ok) each = refl
    by Wake each = refl
