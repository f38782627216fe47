-- How an input that is no line changes what is known of delta records, and what the write of a free does.
use Rattle.sl_due_facts.specs.Acts.Acts.{Has}
use Rattle.sl_due_facts.specs.Acts.TraceSoFar.{entry_of}
use Rattle.sl_due.specs.CarriedDelta.{carry_delta}
use Rattle.sl_due.specs.Steps.{Step, add_call_of, add_reply, seen, with_input}
use Rattle.sl_due_facts.proofs.Jobs.CallsHaveFacts.{sessions_told, timely}
use Rattle.sl_due_facts.proofs.Jobs.CallsStay.{is_special}
use Rattle.sl_due_facts.proofs.Jobs.EffectsAreAllowed.{Allows}
use Rattle.sl_due_facts.proofs.Jobs.NearlyPlainActs.{AnyMove, AnyStart, is_command_line}
use Rattle.sl_due_facts.proofs.Jobs.SessionsArePresent.{session_has}
use Rattle.sl_due_facts.proofs.AddedEffects.CallsGrow.{mine_more, others_stay, same_sessions}
use Rattle.sl_words.proofs.Lists.{contains_cases, contains_none, got_inside, kept, kept_inside}
use Rattle.sl_words.proofs.Numbers.{below_suc}
use Rattle.sl_words.proofs.Options.{some_of}
use Rattle.sl_sector.specs.Bitmaps.{no_bits}
use Rattle.sl_sector.specs.declared.sector.DeltaRec.{DeltaRec}
use Rattle.sl_sector.specs.declared.sector.DeltaState.TheVariants.{Free}
use Rattle.sl_sector.specs.declared.sector.Rec.TheVariants.{DeltaIs}
use Rattle.sl_due_facts.proofs.Sessions.DeltaActs.{DeltaDone, allows_done, delta_full, no_number, one_unfreed, since_freed}
use Rattle.sl_due_facts.proofs.Sessions.DeltaConditions.{freed_before, part_of, plain_reply}
use Rattle.sl_due_facts.proofs.Sessions.DeltaGrow.{DeltaCall, DeltaPart, DeltaReply, DeltaSince}
use Rattle.sl_due_facts.proofs.Sessions.DeltaIsAllowed.{delta_at, input_delta, mark_free}
use Rattle.sl_due_facts.proofs.Sessions.HoldingsOfSessions.{HeldBy, held_itself}
use Rattle.sl_due_facts.proofs.Sessions.JoinedNumbers.{HasNumbers}
use Rattle.sl_due_facts.proofs.Sessions.NamesGrow.{calls_of_told}
use Rattle.sl_due_facts.specs.Sessions.SessionLaws.{HasDeltaFacts}
use Rattle.sl_trace.specs.DeltaDecisions.{delta_known, delta_of_session, delta_record, next_free, own_offset}
use Rattle.sl_trace.specs.Sessions.{calls_of, free_write, generation_in, generation_of, holdings_of, is_call_of, is_joined, last_seq, leaving_job, open_calls_of, seq_in, session_numbered, sessions}
use Rattle.sl_trace.specs.declared.delta.DeltaNext.{DeltaNext}
use Rattle.sl_trace.specs.declared.delta.DeltaNext.TheVariants.{Nothing, WriteFree}
use Rattle.sl_trace.specs.declared.session.Session.{Session}
use Rattle.sl_due_facts.specs.Facts.SessionFacts.{DeltaFacts}
use Rattle.sl_due_facts.specs.Facts.AllFacts.{Whole}
use Rattle.sl_trace.specs.Traces.{Answered, Job, Submitted, line_in, new_call, next_call, submitted, unanswered}
use Rattle.sl_trace.specs.declared.effects.Call.{Call}
use Rattle.sl_trace.specs.declared.effects.Op.TheVariants.{WriteRecord}
use Rattle.sl_trace.specs.declared.effects.Purpose.TheVariants.{Leaving}
use Rattle.sl_trace.specs.declared.input.Answer.{Answer}
use Rattle.sl_trace.specs.declared.input.Input.{Input}
use Rattle.sl_trace.specs.declared.input.Input.TheVariants.{Answer as Told, Exit, Line, Number, Spawned, Wake}
use Rattle.sl_trace.specs.declared.reply.Reply.{Reply}
use Rattle.sl_words.proofs.CaseLaws.{none_some, one_value, some_value, true_is_false}
use Rattle.sl_words.specs.Bounds.{is_number}
use Rattle.std.proofs.Common.{ap, inl, inr, refl, subst, sym, ◌∙◌}
use Rattle.std.proofs.lemmas.Bool.{eqb-true}
use Rattle.std.specs.Prelude.{Bool, Contains, IsSome, IsTrue, List, None, Option, Some, [], false, is_none, is_some, length, option_map, true, ℕ, ◌+◌, ◌==◌, ◌∷◌, ◌≡◌, ◌≤◌, ◌⊎◌}

-- ---- what an act leaves

pub part : (x : Step) → Whole x → DeltaPart x.setting (seen x)
part x h = part_of x.setting (seen x) h.facts.delta

pub allowed : (x : Step) → line_in x.input ≡ None → Whole x → Allows (DeltaSince x) (DeltaDone x) (DeltaReply x) (DeltaCall x) AnyStart AnyMove
allowed x none h = allows_done x (freed_before x none (part x h))

pub begin_delta : (x : Step) → Whole x → DeltaSince x x
begin_delta x h = delta_at x (part x h)

-- Of one that grants nothing, or grants to a session that has not written its free.
pub grants_none : (x y : Step) → Whole x → DeltaDone x y → HeldBy x (length (sessions x.setting (seen x))) y → HasDeltaFacts y
grants_none x y h d owners = delta_full x y (length (sessions x.setting (seen x))) h.facts.delta d owners (λ s there is. no_number x s there is)

pub grants_to : (x y : Step) (s : Session) → Whole x → Has x s → free_write (calls_of (seen x) s) ≡ None → DeltaDone x y → HeldBy x s.number y → HasDeltaFacts y
grants_to x y s h has free d owners = delta_full x y s.number h.facts.delta d owners (λ z there is. one_unfreed x s has free z there is)

pub since_done : (x y : Step) → DeltaSince x y → DeltaDone x y
since_done x y k = (k.part, since_freed x y k)

pub told_line : {i : Input} {n : ℕ} {a : Answer} → i ≡ Told n a → line_in i ≡ None
told_line is = ap (λ i. line_in i) is

pub woken_line : {i : Input} → i ≡ Wake → line_in i ≡ None
woken_line is = ap (λ i. line_in i) is

pub replied : (x : Step) (j : ℕ) (r : Reply) → line_in x.input ≡ None → is_special r ≡ false → Whole x → HasDeltaFacts (add_reply j r x)
replied x j r none after h =
    grants_none x (add_reply j r x) h (since_done x (add_reply j r x) ((allowed x none h).replies x j r (plain_reply x j r after) (begin_delta x h))) (held_itself x (length (sessions x.setting (seen x))))

-- ---- inputs

no_leaving : (x : Step) (i : Input) → is_command_line i ≡ false → (s : Session) → leaving_job x.setting (record { reading = x.reading; input = i; effects = x.effects } ∷ x.past) s ≡ leaving_job x.setting (record { reading = x.reading; input = Wake; effects = x.effects } ∷ x.past) s
no_leaving x (Line text) no_line s = absurd (true_is_false no_line)
no_leaving x (Number text) no_line s = refl
no_leaving x (Told n a) no_line s = refl
no_leaving x Wake no_line s = refl
no_leaving x (Exit p) no_line s = refl
no_leaving x (Spawned p ok) no_line s = refl

input_part : (x : Step) (i : Input) → x.input ≡ Wake → x.effects.calls ≡ [] → is_command_line i ≡ false → Whole x → DeltaPart x.setting (seen (with_input i x))
input_part x i wake bare no_line h =
    let same : (s : Session) → leaving_job x.setting (seen (with_input i x)) s ≡ leaving_job x.setting (seen x) s =
    λ s. no_leaving x i no_line s ∙ sym (ap (λ k. leaving_job x.setting (record { reading = x.reading; input = k; effects = x.effects } ∷ x.past) s) wake)
    in
    input_delta x i wake bare (λ s k there joined is. inl (sym (same s) ∙ is)) (λ s k is. subst (λ o. IsSome o) (sym (same s ∙ is)) refl) (part x h)

input_same : (x : Step) (i : Input) → x.input ≡ Wake → x.effects.calls ≡ [] → (s : Session) (m : Submitted) → Contains (sessions x.setting (seen (with_input i x))) s → free_write (calls_of (seen (with_input i x)) s) ≡ Some m
    → (k : Submitted) × Contains (sessions x.setting (seen x)) s × (free_write (calls_of (seen x) s) ≡ Some k)
input_same x i wake bare s m there is = by (free_write (calls_of (seen x) s)) refl where
  by : (o : Option Submitted) → free_write (calls_of (seen x) s) ≡ o → (k : Submitted) × Contains (sessions x.setting (seen x)) s × (free_write (calls_of (seen x) s) ≡ Some k)
  by (Some k) was = (k, subst (λ ss. Contains ss s) (sessions_told x i bare) there, was)
  by None none = absurd (none_some m (sym (ap (λ ms. free_write ms) (calls_of_told x i s wake bare) ∙ mark_free x.past (entry_of (with_input i x)) i (calls_of (seen x) s) none) ∙ is))

-- With the input seen, whatever holds of the parts.
pub seen_full : (x : Step) (i : Input) → x.input ≡ Wake → x.effects.calls ≡ [] → Whole x → DeltaPart x.setting (seen (with_input i x)) → DeltaFacts x.setting (seen (with_input i x))
seen_full x i wake bare h p =
    record {
      frees = λ s m there is.
          let q = p.frees s m there is in
          let was = input_same x i wake bare s m there is in (q.0, (h.facts.delta.frees s was.0 was.1 was.2).1, q.1);
      before = p.before;
      numbers = p.numbers;
      left = p.left;
    }

pub told_full : (x : Step) (i : Input) → x.input ≡ Wake → x.effects.calls ≡ [] → is_command_line i ≡ false → Whole x → DeltaFacts x.setting (seen (with_input i x))
told_full x i wake bare no_line h = seen_full x i wake bare h (input_part x i wake bare no_line h)

-- ---- a free

written_free : (x : Step) (s : Session) (j : ℕ) (d : DeltaRec) → Whole x → Has x s → is_joined (seen x) s ≡ true → holdings_of (seen x) s ≡ [] → open_calls_of (seen x) s ≡ [] → IsSome (leaving_job x.setting (seen x) s) → free_write (calls_of (seen x) s) ≡ None
    → d.generation ≡ generation_of (seen x) s → d.seq ≡ last_seq (seen x) s + 1 → DeltaFacts x.setting (seen (add_call_of s.number s.path (Leaving j) (own_offset x.setting s) (WriteRecord (DeltaIs d)) x))
written_free x s j d h has joined free quiet leaves_s unfreed gen seq =
    record {
      frees = λ z m there is. frees z m (old z there) is (calls_by z (s.number == z.number) refl);
      before = λ z m n there is inside. before z m n (old z there) is inside (calls_by z (s.number == z.number) refl);
      numbers = λ z there is. numbers z (old z there) is (calls_by z (s.number == z.number) refl);
      left = λ z k there is leaves_z none. left z k (old z there) is leaves_z none (calls_by z (s.number == z.number) refl);
    } where
      f : DeltaFacts x.setting (seen x)
      f = h.facts.delta

      made : Call
      made = record { number = next_call x.setting (seen x); session = s.number; purpose = Leaving j; path = s.path; offset = own_offset x.setting s; op = WriteRecord (DeltaIs d) }

      new : Submitted
      new = new_call (length x.past) x.reading made

      y : Step
      y = add_call_of s.number s.path (Leaving j) (own_offset x.setting s) (WriteRecord (DeltaIs d)) x

      inside_s : Contains (sessions x.setting (seen x)) s
      inside_s = got_inside (sessions x.setting (seen x)) s.number s has

      old : (z : Session) → Contains (sessions x.setting (seen y)) z → Contains (sessions x.setting (seen x)) z
      old z there = subst (λ ss. Contains ss z) (same_sessions x.setting (entry_of x) x.past made refl) there

      calls_by : (z : Session) → (b : Bool) → (s.number == z.number) ≡ b → ((z.number ≡ s.number) × (calls_of (seen y) z ≡ new ∷ calls_of (seen x) z)) ⊎ (calls_of (seen y) z ≡ calls_of (seen x) z)
      calls_by z true is = inl (sym (eqb-true s.number z.number is), mine_more (entry_of x) x.past made z is)
      calls_by z false is = inr (others_stay (entry_of x) x.past made z is)

      one : (z : Session) → Contains (sessions x.setting (seen x)) z → z.number ≡ s.number → z ≡ s
      one z there same = one_value z s (session_numbered x.setting (seen x) s.number) (subst (λ n. session_numbered x.setting (seen x) n ≡ Some z) same (session_has x.setting (seen x) z there)) has

      frees : (z : Session) (m : Submitted) → Contains (sessions x.setting (seen x)) z → free_write (calls_of (seen y) z) ≡ Some m → ((z.number ≡ s.number) × (calls_of (seen y) z ≡ new ∷ calls_of (seen x) z)) ⊎ (calls_of (seen y) z ≡ calls_of (seen x) z)
          → IsSome (leaving_job x.setting (seen x) z) × (holdings_of (seen x) z ≡ []) × ((ms : List Submitted) × (calls_of (seen y) z ≡ m ∷ ms) × (unanswered ms ≡ []))
      frees z m there is (inl mine) =
          let same : z ≡ s = one z there mine.0 in
          let first : new ≡ m = some_value new m (sym (ap (λ ms. free_write ms) mine.1) ∙ is) in (
            subst (λ (q : Session). IsSome (leaving_job x.setting (seen x) q)) (sym same) leaves_s,
            ap (λ (q : Session). holdings_of (seen x) q) same ∙ free,
            (calls_of (seen x) z, mine.1 ∙ ap (λ q. q ∷ calls_of (seen x) z) first, ap (λ (q : Session). unanswered (calls_of (seen x) q)) same ∙ quiet),
          )
      frees z m there is (inr other) = let was = f.frees z m there (sym (ap (λ ms. free_write ms) other) ∙ is) in (was.0, was.1, (was.2.0, other ∙ was.2.1, was.2.2))

      answered : (n : Submitted) → Contains (calls_of (seen x) s) n → (o : Option Answered) → n.answer ≡ o → (a : Answered) × (n.answer ≡ Some a) × (a.at ≤ length x.past)
      answered n there None none = absurd (contains_none n (subst (λ ms. Contains ms n) quiet (kept (λ (z : Submitted). is_none z.answer) (calls_of (seen x) s) n (ap (λ o. is_none o) none) there)))
      answered n there (Some a) is =
          let inside = kept_inside (is_call_of s) (submitted (seen x)) n there in (a, is, below_suc a.at (length x.past) ((timely (seen x) n inside.0).1 a is).1)

      before : (z : Session) (m n : Submitted) → Contains (sessions x.setting (seen x)) z → free_write (calls_of (seen y) z) ≡ Some m → Contains (calls_of (seen y) z) n
          → ((z.number ≡ s.number) × (calls_of (seen y) z ≡ new ∷ calls_of (seen x) z)) ⊎ (calls_of (seen y) z ≡ calls_of (seen x) z) → (n ≡ m) ⊎ ((a : Answered) × (n.answer ≡ Some a) × (a.at ≤ m.at))
      before z m n there is inside (inl mine) =
          let same : z ≡ s = one z there mine.0 in
          let first : new ≡ m = some_value new m (sym (ap (λ ms. free_write ms) mine.1) ∙ is) in
          by first (contains_cases new (calls_of (seen x) z) n (subst (λ ms. Contains ms n) mine.1 inside)) same where
            by : new ≡ m → (new ≡ n) ⊎ Contains (calls_of (seen x) z) n → z ≡ s → (n ≡ m) ⊎ ((a : Answered) × (n.answer ≡ Some a) × (a.at ≤ m.at))
            by first (inl itself) same = inl (sym itself ∙ first)
            by first (inr rest) same =
                let a = answered n (subst (λ (q : Session). Contains (calls_of (seen x) q) n) same rest) n.answer refl in
                inr (a.0, a.1, subst (λ k. a.0.at ≤ k) (ap (λ (q : Submitted). q.at) first) a.2)
      before z m n there is inside (inr other) = f.before z m n there (sym (ap (λ ms. free_write ms) other) ∙ is) (subst (λ ms. Contains ms n) other inside)

      numbers : (z : Session) → Contains (sessions x.setting (seen x)) z → is_joined (seen x) z ≡ true → ((z.number ≡ s.number) × (calls_of (seen y) z ≡ new ∷ calls_of (seen x) z)) ⊎ (calls_of (seen y) z ≡ calls_of (seen x) z) → HasNumbers (seen y) z
      numbers z there is (inr other) = subst (λ ms. (1 ≤ generation_in z ms) × IsTrue (is_number (generation_in z ms)) × IsTrue (is_number (seq_in z ms))) (sym other) (f.numbers z there is)
      numbers z there is (inl mine) =
          let same : z ≡ s = one z there mine.0 in
          let was = f.numbers s inside_s joined in
          let k = some_of (leaving_job x.setting (seen x) s) leaves_s in
          subst (λ ms. (1 ≤ generation_in z ms) × IsTrue (is_number (generation_in z ms)) × IsTrue (is_number (seq_in z ms))) (sym mine.1)
          (subst (λ n. 1 ≤ n) (sym gen) was.0, subst (λ n. IsTrue (is_number n)) (sym gen) was.1, subst (λ n. IsTrue (is_number n)) (sym seq) (f.left s k.0 inside_s joined k.1 unfreed))

      left : (z : Session) (k : Job) → Contains (sessions x.setting (seen x)) z → is_joined (seen x) z ≡ true → leaving_job x.setting (seen x) z ≡ Some k → free_write (calls_of (seen y) z) ≡ None
          → ((z.number ≡ s.number) × (calls_of (seen y) z ≡ new ∷ calls_of (seen x) z)) ⊎ (calls_of (seen y) z ≡ calls_of (seen x) z) → IsTrue (is_number (last_seq (seen y) z + 1))
      left z k there is leaves_z none (inl mine) = absurd (none_some new (sym none ∙ ap (λ ms. free_write ms) mine.1))
      left z k there is leaves_z none (inr other) = subst (λ ms. IsTrue (is_number (seq_in z ms + 1))) (sym other) (f.left z k there is leaves_z (sym (ap (λ ms. free_write ms) other) ∙ none))

pub frees_full : (x : Step) (s : Session) → Whole x → Has x s → is_joined (seen x) s ≡ true → holdings_of (seen x) s ≡ [] → open_calls_of (seen x) s ≡ []
    → HasDeltaFacts (carry_delta s (next_free (delta_of_session x.setting s) x.reading (delta_known x.setting (seen x) s)) x)
unfolding carry_delta
frees_full x s h has joined free quiet = by (leaving_job x.setting (seen x) s) refl (free_write (calls_of (seen x) s)) refl where
  d : DeltaRec
  d = delta_record (delta_of_session x.setting s) Free (generation_of (seen x) s) (last_seq (seen x) s + 1) x.reading no_bits

  by : (o : Option Job) → leaving_job x.setting (seen x) s ≡ o → (q : Option Submitted) → free_write (calls_of (seen x) s) ≡ q
      → HasDeltaFacts (carry_delta s (elim (option_map (λ (j : Job). j.number) o) as (λ z. DeltaNext) [ None ↦ Nothing | Some j ↦ elim (is_some q) as (λ z. DeltaNext) [ true ↦ Nothing | false ↦ WriteFree j (delta_record (delta_of_session x.setting s) Free (generation_of (seen x) s) (last_seq (seen x) s + 1) x.reading no_bits) ] ]) x)
  by None is q freed = h.facts.delta
  by (Some k) is (Some m) freed = h.facts.delta
  by (Some k) is None freed = written_free x s k.number d h has joined free quiet (subst (λ o. IsSome o) (sym is) refl) freed refl refl
