-- Which entry brought a reply, and which an answer: an entry answers one call at most.
use Rattle.sl_words.proofs.Lists.{contains_none, find_inside, in_map}
use Rattle.sl_run_law.proofs.Sessions.CallsAreMade.{old_or_new}
use Rattle.sl_trace.specs.Traces.{Answered, Replied, Submitted, Trace, answer_of, answered_in, mark, reply_in, reply_to, submitted}
use Rattle.sl_trace.specs.declared.effects.Entry.{Entry}
use Rattle.sl_trace.specs.declared.effects.JobReply.{JobReply}
use Rattle.sl_trace.specs.declared.input.Answer.{Answer}
use Rattle.sl_trace.specs.declared.input.Input.TheVariants.{Answer as Told, Exit, Line, Number, Spawned, Wake}
use Rattle.sl_trace.specs.declared.input.Input.{Input}
use Rattle.sl_words.proofs.CaseLaws.{no_value, none_some, some_value}
use Rattle.std.proofs.Common.{ap, arith, inl, inr, refl, subst, sym, ◌∙◌}
use Rattle.std.proofs.lemmas.Bool.{eqb-true}
use Rattle.std.specs.Option.{option_or}
use Rattle.std.specs.Prelude.{Bool, Contains, List, None, Option, Some, [], false, find, length, map, option_map, suc, true, ℕ, ◌++◌, ◌+◌, ◌==◌, ◌∷◌, ◌≡◌, ◌⊎◌}

-- ---- replies

pub record RepliedBy (es : Trace) (job : ℕ) (r : Replied) : Type 0 where
  pub later : Trace
  pub entry : Entry
  pub past : Trace
  pub whole : es ≡ later ++ entry ∷ past
  pub place : r.at ≡ length past
  pub reply : JobReply
  pub given : Contains entry.effects.replies reply
  pub job_is : reply.job ≡ job
  pub says : reply.reply ≡ r.reply

replied_more : (e : Entry) (es : Trace) (job : ℕ) (r : Replied) → RepliedBy es job r → RepliedBy (e ∷ es) job r
replied_more e es job r b =
    record { later = e ∷ b.later; entry = b.entry; past = b.past; whole = ap (λ t. e ∷ t) b.whole; place = b.place; reply = b.reply; given = b.given; job_is = b.job_is; says = b.says }

replied_now : (e : Entry) (es : Trace) (job : ℕ) (r : Replied) (o : Option JobReply) → find (λ (a : JobReply). a.job == job) e.effects.replies ≡ o
    → option_map (λ (a : JobReply). let q : Replied = record { at = length es; reply = a.reply } in q) o ≡ Some r → RepliedBy (e ∷ es) job r
replied_now e es job r None was is = absurd (none_some r is)
replied_now e es job r (Some a) was is =
    let f = find_inside (λ (x : JobReply). x.job == job) e.effects.replies a was in
    let q : Replied = record { at = length es; reply = a.reply } in
    let same : q ≡ r = some_value q r is in
    record {
      later = [];
      entry = e;
      past = es;
      whole = refl;
      place = ap (λ (x : Replied). x.at) (sym same);
      reply = a;
      given = f.0;
      job_is = eqb-true a.job job f.1;
      says = ap (λ (x : Replied). x.reply) same;
    }

replied_with : (e : Entry) (es : Trace) (job : ℕ) (r : Replied) → ((q : Replied) → reply_to es job ≡ Some q → RepliedBy es job q) → (o : Option Replied) → reply_to es job ≡ o
    → elim o as (λ z. Option Replied) [ Some q ↦ Some q | None ↦ reply_in job es e ] ≡ Some r → RepliedBy (e ∷ es) job r
replied_with e es job r rest None was is = replied_now e es job r (find (λ (a : JobReply). a.job == job) e.effects.replies) refl is
replied_with e es job r rest (Some q) was is = replied_more e es job r (rest r (was ∙ is))

pub replied_by : (es : Trace) (job : ℕ) (r : Replied) → reply_to es job ≡ Some r → RepliedBy es job r
replied_by [] job r is = absurd (none_some r is)
replied_by (e ∷ es) job r is = replied_with e es job r (λ q was. replied_by es job q was) (reply_to es job) refl is

-- ---- answers

-- An entry brought this answer to this call.
pub record AnsweredBy (es : Trace) (n : ℕ) (at : ℕ) : Type 0 where
  pub later : Trace
  pub entry : Entry
  pub past : Trace
  pub whole : es ≡ later ++ entry ∷ past
  pub place : at ≡ length past
  pub answer : Answer
  pub told : entry.input ≡ Told n answer

answered_more : (e : Entry) (es : Trace) (n at : ℕ) → AnsweredBy es n at → AnsweredBy (e ∷ es) n at
answered_more e es n at b =
    record { later = e ∷ b.later; entry = b.entry; past = b.past; whole = ap (λ t. e ∷ t) b.whole; place = b.place; answer = b.answer; told = b.told }

-- A marked call had its answer before, or has it now.
abbrev MarkedBy : Trace → Entry → List Submitted → Submitted → Answered → Type 0
MarkedBy es e ms m a =
    ((b : Submitted) × Contains ms b × (m.call ≡ b.call) × (b.answer ≡ Some a)) ⊎ ((w : Answer) × (e.input ≡ Told m.call.number w) × (a.at ≡ length es))

abbrev told_as : Bool → Submitted → Answered → Submitted
told_as t m a = elim t as (λ x. Submitted) [ false ↦ m | true ↦ record m { answer = option_or m.answer (Some a) } ]

marked_with : (es : Trace) (e : Entry) (n : ℕ) (w : Answer) (ms : List Submitted) (x : Submitted) (a : Answered) → e.input ≡ Told n w → Contains ms x
    → (t : Bool) → (x.call.number == n) ≡ t → (o : Option Answered) → x.answer ≡ o → (told_as t x (answer_of es e w x.call)).answer ≡ Some a
    → MarkedBy es e ms (told_as t x (answer_of es e w x.call)) a
marked_with es e n w ms x a i there false is o was h = inl (x, there, refl, h)
marked_with es e n w ms x a i there true is (Some b) was h =
    inl (x, there, refl, was ∙ sym (ap (λ q. option_or q (Some (answer_of es e w x.call))) was) ∙ h)
marked_with es e n w ms x a i there true is None was h =
    let now : answer_of es e w x.call ≡ a = some_value (answer_of es e w x.call) a (sym (ap (λ q. option_or q (Some (answer_of es e w x.call))) was) ∙ h) in
    inr (w, i ∙ ap (λ k. Told k w) (sym (eqb-true x.call.number n is)), ap (λ (b : Answered). b.at) (sym now))

marked_told : (es : Trace) (e : Entry) (n : ℕ) (w : Answer) (ms : List Submitted) (m : Submitted) (a : Answered) → e.input ≡ Told n w
    → Contains (map (answered_in es e n w) ms) m → m.answer ≡ Some a → MarkedBy es e ms m a
marked_told es e n w ms m a i there h =
    let x = in_map (answered_in es e n w) ms m there in
    subst (λ y. MarkedBy es e ms y a) x.2
    (marked_with es e n w ms x.0 a i x.1 (x.0.call.number == n) refl x.0.answer refl (ap (λ (y : Submitted). y.answer) x.2 ∙ h))

marked_by : (es : Trace) (e : Entry) (i : Input) (ms : List Submitted) (m : Submitted) (a : Answered) → e.input ≡ i → Contains (mark es e i ms) m → m.answer ≡ Some a → MarkedBy es e ms m a
marked_by es e (Told n w) ms m a is there h = marked_told es e n w ms m a is there h
marked_by es e (Line text) ms m a is there h = inl (m, there, refl, h)
marked_by es e (Number text) ms m a is there h = inl (m, there, refl, h)
marked_by es e (Exit p) ms m a is there h = inl (m, there, refl, h)
marked_by es e (Spawned p ok) ms m a is there h = inl (m, there, refl, h)
marked_by es e Wake ms m a is there h = inl (m, there, refl, h)

pub answered_by : (es : Trace) (m : Submitted) (a : Answered) → Contains (submitted es) m → m.answer ≡ Some a → AnsweredBy es m.call.number a.at
answered_by [] m a there h = absurd (contains_none m there)
answered_by (e ∷ es) m a there h =
    elim (old_or_new (length es) e.reading e.effects.calls (mark es e e.input (submitted es)) m there) as (λ z. AnsweredBy (e ∷ es) m.call.number a.at) [
      | inr new ↦ absurd (no_value a m.answer h new.unmet)
      | inl old ↦ elim (marked_by es e e.input (submitted es) m a refl old h) as (λ z. AnsweredBy (e ∷ es) m.call.number a.at) [
        | inl b ↦ answered_more e es m.call.number a.at (subst (λ c. AnsweredBy es c.number a.at) (sym b.2) (answered_by es b.0 a b.1 b.3))
        | inr now ↦ record { later = []; entry = e; past = es; whole = refl; place = now.2; answer = now.0; told = now.1 }
      ]
    ]

-- Ends of one list that are as long are one.
length_parts : {A : Type 0} (xs ys : List A) → length (xs ++ ys) ≡ length xs + length ys
length_parts [] ys = let e : length ys ≡ 0 + length ys = omega arith in e
length_parts (x ∷ xs) ys = let rest = length_parts xs ys in omega (arith, rest)

not_longer : {A : Type 0} (x : A) (xs fs gs : List A) → fs ≡ (x ∷ xs) ++ gs → length fs ≡ length gs → ⊥
not_longer x xs fs gs same long = let n : length fs ≡ suc (length xs) + length gs = ap (λ l. length l) same ∙ length_parts (x ∷ xs) gs in omega (arith, n, long)

cons_tail : {A : Type 0} (a b : A) (xs ys : List A) → a ∷ xs ≡ b ∷ ys → xs ≡ ys
cons_tail a b xs ys h = cc

cons_head : {A : Type 0} (a b : A) (xs ys : List A) → a ∷ xs ≡ b ∷ ys → a ≡ b
cons_head a b xs ys h = cc

pub same_ends : {A : Type 0} (xs ys fs gs : List A) → xs ++ fs ≡ ys ++ gs → length fs ≡ length gs → fs ≡ gs
same_ends [] [] fs gs same long = same
same_ends [] (y ∷ ys) fs gs same long = absurd (not_longer y ys fs gs same long)
same_ends (x ∷ xs) [] fs gs same long = absurd (not_longer x xs gs fs (sym same) (sym long))
same_ends (x ∷ xs) (y ∷ ys) fs gs same long = same_ends xs ys fs gs (cons_tail x y (xs ++ fs) (ys ++ gs) same) long

number_told : (m n : ℕ) (a b : Answer) → Told m a ≡ Told n b → m ≡ n
number_told m n a b h = cc

-- Calls that one entry answered have one number.
pub one_answered : (es : Trace) (m k : ℕ) (at : ℕ) → AnsweredBy es m at → AnsweredBy es k at → m ≡ k
one_answered es m k at x y =
    let same = same_ends x.later y.later (x.entry ∷ x.past) (y.entry ∷ y.past) (sym x.whole ∙ y.whole) (ap (λ n. suc n) (sym x.place ∙ y.place)) in
    number_told m k x.answer y.answer (sym x.told ∙ ap (λ (e : Entry). e.input) (cons_head x.entry y.entry x.past y.past same) ∙ y.told)
