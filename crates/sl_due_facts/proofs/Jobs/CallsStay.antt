-- A reply leaves all calls as they are, unless it ends a job before the answer that its entry brings is heeded.
use Rattle.sl_due_facts.specs.Acts.TraceSoFar.{entry_of}
use Rattle.sl_due.specs.Steps.{Step, add_reply, seen}
use Rattle.sl_due_facts.proofs.AddedEffects.CallsGrow.{any_more}
use Rattle.sl_words.proofs.Lists.{contains_first, contains_more}
use Rattle.sl_words.proofs.Truth.{left_is_false}
use Rattle.sl_trace.specs.Sessions.{is_join_done}
use Rattle.sl_trace.specs.Traces.{Answered, Submitted, answer_of, answered_in, is_before_input, is_going_on, is_running, job_of, mark, new_call, submitted}
use Rattle.sl_trace.specs.declared.effects.JobReply.{JobReply}
use Rattle.sl_trace.specs.declared.input.Answer.{Answer}
use Rattle.sl_trace.specs.declared.input.Input.{Input}
use Rattle.sl_trace.specs.declared.input.Input.TheVariants.{Answer as Told}
use Rattle.sl_trace.specs.declared.reply.Reply.{Reply}
use Rattle.sl_trace.specs.declared.reply.Reply.TheVariants.{Generation}
use Rattle.sl_words.proofs.CaseLaws.{none_some}
use Rattle.std.proofs.Common.{ap, ap₂, inl, inr, refl, sym}
use Rattle.std.specs.Option.{option_or}
use Rattle.std.specs.Prelude.{Bool, Contains, List, None, Option, Some, [], false, fold, length, map, not, true, ℕ, ◌&&◌, ◌==◌, ◌||◌, ◌∷◌, ◌≡◌, ◌⊎◌}

-- The reply comes after the answer of the entry, if it brings one, or the answer is of no job's call.
abbrev pub IsLate : Step → Reply → Type 0
IsLate x r = (n : ℕ) (a : Answer) → x.input ≡ Told n a → (is_before_input r ≡ false) ⊎ ((m : Submitted) → Contains (submitted x.past) m → (m.call.number == n) ≡ true → job_of m.call.purpose ≡ None)

-- Whether a reply ends a job before the answer of its entry is heeded, or a joining well.
abbrev pub is_special : Reply → Bool
is_special r = is_before_input r || is_join_done r

pub late : (x : Step) (r : Reply) → is_special r ≡ false → IsLate x r
late x r after n a is = inl (left_is_false (is_before_input r) (is_join_done r) after)

-- That a joining is done comes after the answer that does it.
pub late_join : (x : Step) (generation : ℕ) → IsLate x (Generation generation)
late_join x generation n a is = inl refl

never_both : (b c : Bool) → c ≡ false → (b && c) ≡ false
never_both true c h = h
never_both false c h = refl

goes_on_same : (x : Step) (j : ℕ) (r : Reply) (o : Option ℕ) → (is_before_input r ≡ false) ⊎ (o ≡ None) → is_going_on x.past (entry_of (add_reply j r x)) o ≡ is_going_on x.past (entry_of x) o
goes_on_same x j r None h = refl
goes_on_same x j r (Some job) (inr none) = absurd (none_some job (sym none))
goes_on_same x j r (Some job) (inl after) =
    ap (λ b. is_running x.past job && not b)
    (any_more (λ (a : JobReply). a.job == job && is_before_input a.reply) x.effects.replies (record { job = j; reply = r }) (never_both (j == job) (is_before_input r) after))

heeded_same : (x : Step) (j : ℕ) (r : Reply) (n : ℕ) (a : Answer) (m : Submitted) → (is_before_input r ≡ false) ⊎ ((m.call.number == n) ≡ true → job_of m.call.purpose ≡ None)
    → (b : Bool) → (m.call.number == n) ≡ b
    → (elim b as (λ z. Submitted) [ false ↦ m | true ↦ record m { answer = option_or m.answer (Some (answer_of x.past (entry_of (add_reply j r x)) a m.call)) } ])
    ≡ (elim b as (λ z. Submitted) [ false ↦ m | true ↦ record m { answer = option_or m.answer (Some (answer_of x.past (entry_of x) a m.call)) } ])
heeded_same x j r n a m h false is = refl
heeded_same x j r n a m h true is =
    ap (λ b. answered m (option_or m.answer (Some (told b)))) (goes_on_same x j r (job_of m.call.purpose) (by h)) where
      told : Bool → Answered
      told b = record { at = length x.past; reading = x.reading; answer = a; heeded = b }

      answered : Submitted → Option Answered → Submitted
      answered k o = record k { answer = o }

      by : (is_before_input r ≡ false) ⊎ ((m.call.number == n) ≡ true → job_of m.call.purpose ≡ None) → (is_before_input r ≡ false) ⊎ (job_of m.call.purpose ≡ None)
      by (inl after) = inl after
      by (inr none) = inr (none is)

map_same : {A B : Type 0} (f g : A → B) (xs : List A) → ((a : A) → Contains xs a → f a ≡ g a) → map f xs ≡ map g xs
map_same f g [] h = refl
map_same f g (x ∷ xs) h = ap₂ (λ y ys. y ∷ ys) (h x (contains_first x xs)) (map_same f g xs (λ a there. h a (contains_more x xs a there)))

marks_same : (x : Step) (j : ℕ) (r : Reply) → IsLate x r → (i : Input) → x.input ≡ i → mark x.past (entry_of (add_reply j r x)) i (submitted x.past) ≡ mark x.past (entry_of x) i (submitted x.past)
marks_same x j r h (Told n a) is =
    map_same (answered_in x.past (entry_of (add_reply j r x)) n a) (answered_in x.past (entry_of x) n a) (submitted x.past)
    (λ m there. heeded_same x j r n a m (by m there (h n a is)) (m.call.number == n) refl)
  where
    by : (m : Submitted) → Contains (submitted x.past) m → (is_before_input r ≡ false) ⊎ ((k : Submitted) → Contains (submitted x.past) k → (k.call.number == n) ≡ true → job_of k.call.purpose ≡ None)
        → (is_before_input r ≡ false) ⊎ ((m.call.number == n) ≡ true → job_of m.call.purpose ≡ None)
    by m there (inl after) = inl after
    by m there (inr none) = inr (none m there)
marks_same x j r h i is = refl

pub calls_stay : (x : Step) (j : ℕ) (r : Reply) → IsLate x r → submitted (seen (add_reply j r x)) ≡ submitted (seen x)
calls_stay x j r h = ap (λ ms. fold (λ ks c. new_call (length x.past) x.reading c ∷ ks) ms x.effects.calls) (marks_same x j r h x.input refl)
