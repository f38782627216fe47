-- What is known of delta records, but for holdings, is kept by each allowed effect.
use Rattle.sl_due_facts.specs.Acts.Acts.{Has}
use Rattle.sl_due_facts.specs.Acts.TraceSoFar.{entry_of}
use Rattle.sl_due.specs.Steps.{Step, add_call_of, add_reply, seen}
use Rattle.sl_due_facts.proofs.Jobs.CallsStay.{IsLate}
use Rattle.sl_due_facts.proofs.Jobs.SessionsArePresent.{session_has}
use Rattle.sl_due_facts.proofs.AddedEffects.CallsGrow.{mine_more, others_stay, same_sessions}
use Rattle.sl_due_facts.proofs.AddedEffects.EffectsAreTold.{effects_are_told}
use Rattle.sl_words.proofs.Options.{some_of}
use Rattle.sl_sector.specs.declared.sector.DeltaRec.{DeltaRec}
use Rattle.sl_due_facts.proofs.Sessions.NameEffects.{joined_of, reply_kept_to}
use Rattle.sl_trace.specs.Sessions.{calls_of, delta_of_record, free_write, generation_in, generation_of, given_number, is_free_purpose, is_join_call, is_join_done, is_joined, joined_after, last_delta, last_seq, leaving_in, leaving_job, seq_in, session_numbered, sessions}
use Rattle.sl_trace.specs.declared.session.Session.{Session}
use Rattle.sl_trace.specs.Traces.{Answered, Job, Replied, Setting, Submitted, Trace, new_call, next_call, record_of, reply_to, submitted, unanswered}
use Rattle.sl_trace.specs.declared.effects.Call.{Call}
use Rattle.sl_trace.specs.declared.effects.Entry.{Entry}
use Rattle.sl_trace.specs.declared.effects.JoinStep.TheVariants.{FirstRead}
use Rattle.sl_trace.specs.declared.effects.Op.{Op}
use Rattle.sl_trace.specs.declared.effects.Purpose.{Purpose}
use Rattle.sl_trace.specs.declared.reply.Reply.{Reply}
use Rattle.sl_words.proofs.CaseLaws.{false_is_true, none_some, one_value}
use Rattle.sl_words.specs.Bounds.{is_number}
use Rattle.sl_words.specs.Words.{choose}
use Rattle.std.proofs.Common.{ap, inl, inr, refl, subst, sym, ◌∙◌}
use Rattle.std.proofs.lemmas.Bool.{eqb-true}
use Rattle.std.specs.Option.{option_map_or}
use Rattle.std.specs.Prelude.{Bool, Contains, IsSome, IsTrue, List, None, Option, Some, [], cond, false, is_none, is_some, length, option_and_then, true, ℕ, ◌+◌, ◌==◌, ◌∷◌, ◌≡◌, ◌≤◌, ◌⊎◌}

-- What is known of delta records, but that a session which wrote its free holds nothing.
pub record DeltaPart (st : Setting) (t : Trace) : Type 0 where
  pub frees : (s : Session) (m : Submitted) → Contains (sessions st t) s → free_write (calls_of t s) ≡ Some m → IsSome (leaving_job st t s) × ((ms : List Submitted) × (calls_of t s ≡ m ∷ ms) × (unanswered ms ≡ []))
  pub before : (s : Session) (m n : Submitted) → Contains (sessions st t) s → free_write (calls_of t s) ≡ Some m → Contains (calls_of t s) n → (n ≡ m) ⊎ ((a : Answered) × (n.answer ≡ Some a) × (a.at ≤ m.at))
  pub numbers : (s : Session) → Contains (sessions st t) s → is_joined t s ≡ true → (1 ≤ generation_of t s) × IsTrue (is_number (generation_of t s)) × IsTrue (is_number (last_seq t s))
  pub left : (s : Session) (k : Job) → Contains (sessions st t) s → is_joined t s ≡ true → leaving_job st t s ≡ Some k → free_write (calls_of t s) ≡ None → IsTrue (is_number (last_seq t s + 1))

-- A leaving that began before an entry goes on.
pub leaving_goes_on : (st : Setting) (e : Entry) (past : Trace) (s : Session) → IsSome (leaving_job st past s) → IsSome (leaving_job st (e ∷ past) s)
leaving_goes_on st e past s is =
    let k = some_of (leaving_job st past s) is in
    subst (λ (o : Option Job). IsSome (elim o as (λ z. Option Job) [ Some j ↦ Some j | None ↦ leaving_in st past s e ])) (sym k.1) refl

-- Whoever wrote its free was leaving before the entry.
abbrev pub FreedBefore : Step → Type 0
FreedBefore x = (s : Session) (m : Submitted) → Contains (sessions x.setting (seen x)) s → free_write (calls_of (seen x) s) ≡ Some m → IsSome (leaving_job x.setting x.past s)

-- The reply ends no joining well.
abbrev pub JoinsNone : Step → ℕ → Reply → Type 0
JoinsNone x j r = (is_join_done r ≡ false) ⊎ ((s : Session) → Contains (sessions x.setting (seen x)) s → s.job ≡ Some j → ⊥)

pub reply_joins_none : (y : Step) (j : ℕ) (r : Reply) (s : Session) → ((s.job ≡ Some j → ⊥) ⊎ (is_join_done r ≡ false)) → is_some (joined_after (seen (add_reply j r y)) s) ≡ true → is_some (joined_after (seen y) s) ≡ true
reply_joins_none y j r s none is = by s.job refl where
  by_reply : (i : ℕ) → s.job ≡ Some i → (b : Bool) → (j == i) ≡ b → is_some (joined_after (seen y) s) ≡ true
  by_reply i its false other =
      let same : reply_to (seen (add_reply j r y)) i ≡ reply_to (seen y) i = effects_are_told.other_replies (record { job = j; reply = r }) (entry_of y) y.past i other in
      ap (λ o. is_some o) (joined_of (seen y) s i its ∙ (ap (λ o. option_and_then (λ (q : Replied). choose (is_join_done q.reply) (q.at + 1)) o) (sym same) ∙ sym (joined_of (seen (add_reply j r y)) s i its))) ∙ is
  by_reply i its true mine = was (reply_to (seen y) j) refl where
    same : j ≡ i
    same = eqb-true j i mine

    own : s.job ≡ Some j
    own = its ∙ ap (λ n. Some n) (sym same)

    after : (a : Replied) → reply_to (seen (add_reply j r y)) j ≡ Some a → is_some (choose (is_join_done a.reply) (a.at + 1)) ≡ true
    after a told = sym (ap (λ o. is_some o) (joined_of (seen (add_reply j r y)) s j own ∙ ap (λ o. option_and_then (λ (q : Replied). choose (is_join_done q.reply) (q.at + 1)) o) told)) ∙ is

    was : (o : Option Replied) → reply_to (seen y) j ≡ o → is_some (joined_after (seen y) s) ≡ true
    was (Some a) told =
        ap (λ o. is_some o) (joined_of (seen y) s j own ∙ ap (λ o. option_and_then (λ (q : Replied). choose (is_join_done q.reply) (q.at + 1)) o) told) ∙ after a (reply_kept_to y j r j a told)
    was None told = absurd (never none) where
      new : reply_to (seen (add_reply j r y)) j ≡ Some (record { at = length y.past; reply = r })
      new = effects_are_told.replies (record { job = j; reply = r }) (entry_of y) y.past (ap (λ o. is_none o) told)

      never : ((s.job ≡ Some j → ⊥) ⊎ (is_join_done r ≡ false)) → ⊥
      never (inl no_one) = no_one own
      never (inr no_join) = false_is_true (sym (ap (λ b. is_some (choose b (length y.past + 1))) no_join) ∙ after (record { at = length y.past; reply = r }) new)

  by : (o : Option ℕ) → s.job ≡ o → is_some (joined_after (seen y) s) ≡ true
  by None its = ap (λ (o : Option ℕ). is_some (elim o as (λ z. Option ℕ) [ None ↦ Some 0 | Some i ↦ option_and_then (λ (q : Replied). choose (is_join_done q.reply) (q.at + 1)) (reply_to (seen y) i) ])) its
  by (Some i) its = by_reply i its (j == i) refl

-- ---- what an act allows

pub record DeltaSince (x y : Step) : Type 0 where
  pub part : DeltaPart y.setting (seen y)
  pub setting : y.setting ≡ x.setting
  pub before : y.past ≡ x.past
  pub input : y.input ≡ x.input
  pub sessions : sessions y.setting (seen y) ≡ sessions x.setting (seen x)
  pub calls : submitted (seen y) ≡ submitted (seen x)
  pub joined : (s : Session) → is_some (joined_after (seen x) s) ≡ true → is_some (joined_after (seen y) s) ≡ true
  pub leaving : (s : Session) (k : Job) → leaving_job y.setting (seen y) s ≡ Some k → leaving_job x.setting (seen x) s ≡ Some k

abbrev pub DeltaReply : Step → ℕ → Reply → Type 0
DeltaReply x j r = IsLate x r × JoinsNone x j r

-- A delta record that a joined session writes, before its free.
pub record GoodDelta (x : Step) (s : Session) (d : DeltaRec) : Type 0 where
  pub same : d.generation ≡ generation_of (seen x) s
  pub seq : IsTrue (is_number d.seq)
  pub left : (k : Job) → leaving_job x.setting (seen x) s ≡ Some k → IsTrue (is_number (d.seq + 1))

pub record DeltaCall (x : Step) (s : Session) (path : List ℕ) (p : Purpose) (o : ℕ) (op : Op) : Type 0 where
  pub has : Has x s
  pub no_look : is_join_call FirstRead p ≡ false
  pub no_free : is_free_purpose p ≡ false
  pub unfreed : free_write (calls_of (seen x) s) ≡ None
  pub delta : (d : DeltaRec) → option_and_then delta_of_record (record_of op) ≡ Some d → GoodDelta x s d

-- A call that is no free, by a session that wrote none.
pub call_delta : (y : Step) (s : Session) (path : List ℕ) (p : Purpose) (o : ℕ) (op : Op) → Has y s → is_join_call FirstRead p ≡ false → is_free_purpose p ≡ false → free_write (calls_of (seen y) s) ≡ None
    → ((d : DeltaRec) → option_and_then delta_of_record (record_of op) ≡ Some d → is_joined (seen y) s ≡ true → GoodDelta y s d) → DeltaPart y.setting (seen y) → DeltaPart y.setting (seen (add_call_of s.number path p o op y))
call_delta y s path p o op has no_look no_free unfreed good h =
    record {
      frees = λ z m there is. frees z m (old z there) is (calls_by z (s.number == z.number) refl);
      before = λ z m n there is inside. before z m n (old z there) is inside (calls_by z (s.number == z.number) refl);
      numbers = λ z there joined. numbers z (old z there) joined (calls_by z (s.number == z.number) refl);
      left = λ z k there joined leaves_z none. left z k (old z there) joined leaves_z none (calls_by z (s.number == z.number) refl);
    } where
      made : Call
      made = record { number = next_call y.setting (seen y); session = s.number; purpose = p; path = path; offset = o; op = op }

      new : Submitted
      new = new_call (length y.past) y.reading made

      old : (z : Session) → Contains (sessions y.setting (seen (add_call_of s.number path p o op y))) z → Contains (sessions y.setting (seen y)) z
      old z there = subst (λ ss. Contains ss z) (same_sessions y.setting (entry_of y) y.past made no_look) there

      one : (z : Session) → Contains (sessions y.setting (seen y)) z → z.number ≡ s.number → z ≡ s
      one z there same = one_value z s (session_numbered y.setting (seen y) s.number) (subst (λ n. session_numbered y.setting (seen y) n ≡ Some z) same (session_has y.setting (seen y) z there)) has

      calls_by : (z : Session) → (b : Bool) → (s.number == z.number) ≡ b → ((z.number ≡ s.number) × (calls_of (seen (add_call_of s.number path p o op y)) z ≡ new ∷ calls_of (seen y) z)) ⊎ (calls_of (seen (add_call_of s.number path p o op y)) z ≡ calls_of (seen y) z)
      calls_by z true is = inl (sym (eqb-true s.number z.number is), mine_more (entry_of y) y.past made z is)
      calls_by z false is = inr (others_stay (entry_of y) y.past made z is)

      free_same : free_write (new ∷ calls_of (seen y) s) ≡ None
      free_same = ap (λ b. cond b (Some new) (free_write (calls_of (seen y) s))) no_free ∙ unfreed

      frees : (z : Session) (m : Submitted) → Contains (sessions y.setting (seen y)) z → free_write (calls_of (seen (add_call_of s.number path p o op y)) z) ≡ Some m
          → ((z.number ≡ s.number) × (calls_of (seen (add_call_of s.number path p o op y)) z ≡ new ∷ calls_of (seen y) z)) ⊎ (calls_of (seen (add_call_of s.number path p o op y)) z ≡ calls_of (seen y) z)
          → IsSome (leaving_job y.setting (seen y) z) × ((ms : List Submitted) × (calls_of (seen (add_call_of s.number path p o op y)) z ≡ m ∷ ms) × (unanswered ms ≡ []))
      frees z m there is (inl mine) =
          let same : z ≡ s = one z there mine.0 in
          absurd (none_some m (sym (ap (λ ms. free_write ms) mine.1 ∙ (ap (λ (q : Session). free_write (new ∷ calls_of (seen y) q)) same ∙ free_same)) ∙ is))
      frees z m there is (inr other) =
          let was = h.frees z m there (sym (ap (λ ms. free_write ms) other) ∙ is) in (was.0, (was.1.0, other ∙ was.1.1, was.1.2))

      before : (z : Session) (m n : Submitted) → Contains (sessions y.setting (seen y)) z → free_write (calls_of (seen (add_call_of s.number path p o op y)) z) ≡ Some m → Contains (calls_of (seen (add_call_of s.number path p o op y)) z) n
          → ((z.number ≡ s.number) × (calls_of (seen (add_call_of s.number path p o op y)) z ≡ new ∷ calls_of (seen y) z)) ⊎ (calls_of (seen (add_call_of s.number path p o op y)) z ≡ calls_of (seen y) z)
          → (n ≡ m) ⊎ ((a : Answered) × (n.answer ≡ Some a) × (a.at ≤ m.at))
      before z m n there is inside (inl mine) =
          let same : z ≡ s = one z there mine.0 in
          absurd (none_some m (sym (ap (λ ms. free_write ms) mine.1 ∙ (ap (λ (q : Session). free_write (new ∷ calls_of (seen y) q)) same ∙ free_same)) ∙ is))
      before z m n there is inside (inr other) = h.before z m n there (sym (ap (λ ms. free_write ms) other) ∙ is) (subst (λ ms. Contains ms n) other inside)

      numbers_by : (z : Session) → z ≡ s → is_joined (seen y) z ≡ true → (1 ≤ generation_of (seen y) z) × IsTrue (is_number (generation_of (seen y) z)) × IsTrue (is_number (last_seq (seen y) z))
          → (o : Option DeltaRec) → option_and_then delta_of_record (record_of op) ≡ o
          → (1 ≤ option_map_or (λ (d : DeltaRec). d.generation) (elim o as (λ q. Option DeltaRec) [ Some d ↦ Some d | None ↦ last_delta (calls_of (seen y) z) ]) (given_number z))
          × IsTrue (is_number (option_map_or (λ (d : DeltaRec). d.generation) (elim o as (λ q. Option DeltaRec) [ Some d ↦ Some d | None ↦ last_delta (calls_of (seen y) z) ]) (given_number z)))
          × IsTrue (is_number (option_map_or (λ (d : DeltaRec). d.seq) (elim o as (λ q. Option DeltaRec) [ Some d ↦ Some d | None ↦ last_delta (calls_of (seen y) z) ]) (given_number z)))
      numbers_by z same joined was None is = was
      numbers_by z same joined was (Some d) is =
          let g : GoodDelta y s d = good d is (subst (λ (q : Session). is_joined (seen y) q ≡ true) same joined) in
          let gen : generation_of (seen y) z ≡ d.generation = ap (λ q. generation_of (seen y) q) same ∙ sym g.same in
          (subst (λ n. 1 ≤ n) gen was.0, subst (λ n. IsTrue (is_number n)) gen was.1, g.seq)

      numbers : (z : Session) → Contains (sessions y.setting (seen y)) z → is_joined (seen y) z ≡ true
          → ((z.number ≡ s.number) × (calls_of (seen (add_call_of s.number path p o op y)) z ≡ new ∷ calls_of (seen y) z)) ⊎ (calls_of (seen (add_call_of s.number path p o op y)) z ≡ calls_of (seen y) z)
          → (1 ≤ generation_of (seen (add_call_of s.number path p o op y)) z) × IsTrue (is_number (generation_of (seen (add_call_of s.number path p o op y)) z)) × IsTrue (is_number (last_seq (seen (add_call_of s.number path p o op y)) z))
      numbers z there joined (inr other) =
          subst (λ ms. (1 ≤ generation_in z ms) × IsTrue (is_number (generation_in z ms)) × IsTrue (is_number (seq_in z ms))) (sym other) (h.numbers z there joined)
      numbers z there joined (inl mine) =
          subst (λ ms. (1 ≤ generation_in z ms) × IsTrue (is_number (generation_in z ms)) × IsTrue (is_number (seq_in z ms))) (sym mine.1)
          (numbers_by z (one z there mine.0) joined (h.numbers z there joined) (option_and_then delta_of_record (record_of op)) refl)

      left_by_delta : (z : Session) (k : Job) → z ≡ s → is_joined (seen y) z ≡ true → leaving_job y.setting (seen y) z ≡ Some k → IsTrue (is_number (last_seq (seen y) z + 1)) → (o : Option DeltaRec) → option_and_then delta_of_record (record_of op) ≡ o
          → IsTrue (is_number (option_map_or (λ (d : DeltaRec). d.seq) (elim o as (λ q. Option DeltaRec) [ Some d ↦ Some d | None ↦ last_delta (calls_of (seen y) z) ]) (given_number z) + 1))
      left_by_delta z k same joined leaves_z was None is = was
      left_by_delta z k same joined leaves_z was (Some d) is =
          (good d is (subst (λ (q : Session). is_joined (seen y) q ≡ true) same joined)).left k (subst (λ (q : Session). leaving_job y.setting (seen y) q ≡ Some k) same leaves_z)

      left : (z : Session) (k : Job) → Contains (sessions y.setting (seen y)) z → is_joined (seen y) z ≡ true → leaving_job y.setting (seen y) z ≡ Some k → free_write (calls_of (seen (add_call_of s.number path p o op y)) z) ≡ None
          → ((z.number ≡ s.number) × (calls_of (seen (add_call_of s.number path p o op y)) z ≡ new ∷ calls_of (seen y) z)) ⊎ (calls_of (seen (add_call_of s.number path p o op y)) z ≡ calls_of (seen y) z)
          → IsTrue (is_number (last_seq (seen (add_call_of s.number path p o op y)) z + 1))
      left z k there joined leaves_z none (inr other) =
          subst (λ ms. IsTrue (is_number (seq_in z ms + 1))) (sym other) (h.left z k there joined leaves_z (sym (ap (λ ms. free_write ms) other) ∙ none))
      left z k there joined leaves_z none (inl mine) =
          let same : z ≡ s = one z there mine.0 in
          subst (λ ms. IsTrue (is_number (seq_in z ms + 1))) (sym mine.1)
          (left_by_delta z k same joined leaves_z (h.left z k there joined leaves_z (ap (λ (q : Session). free_write (calls_of (seen y) q)) same ∙ unfreed)) (option_and_then delta_of_record (record_of op)) refl)
