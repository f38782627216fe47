-- Lists of stamps and of calls that grow by what is kept now, and by nothing else.
use Rattle.sl_run_law.proofs.Front.JoinedLists.{contains_append, contains_left, contains_right}
use Rattle.sl_words.proofs.Lists.{contains_cases, contains_first, contains_more, contains_none}
use Rattle.sl_run.specs.EventChanges.{new_course}
use Rattle.sl_run.specs.Worlds.{Course, Sampling, Stamp}
use Rattle.sl_run_law.proofs.CourseLists.{changed_if}
use Rattle.sl_trace.specs.declared.effects.Call.{Call}
use Rattle.std.proofs.Common.{inl, inr, refl, subst, sym, ◌∙◌}
use Rattle.std.specs.List.{cons_option}
use Rattle.std.specs.Prelude.{Bool, Contains, List, None, Option, Some, false, filter_map, fold, map, true, [], ℕ, ◌++◌, ◌∷◌, ◌≡◌, ◌⊎◌}

-- ---- stamps

-- N says of a step and a moment that what is kept with them is new.
abbrev pub IsNow : (ℕ → ℕ → Type 0) → ℕ → Stamp → Type 0
IsNow N clock s = N s.step s.moment × (s.clock ≡ clock)

-- Each stamp of the second list is of the first, or new.
abbrev pub From : (ℕ → ℕ → Type 0) → ℕ → List Stamp → List Stamp → Type 0
From N clock xs ys = (s : Stamp) → Contains ys s → Contains xs s ⊎ IsNow N clock s

pub from_same : (N : ℕ → ℕ → Type 0) (clock : ℕ) (xs : List Stamp) → From N clock xs xs
from_same N clock xs s h = inl h

pub from_equal : (N : ℕ → ℕ → Type 0) (clock : ℕ) (xs ys : List Stamp) → ys ≡ xs → From N clock xs ys
from_equal N clock xs ys e s h = inl (subst (λ zs. Contains zs s) e h)

-- One more in front.
pub from_new : (N : ℕ → ℕ → Type 0) (clock : ℕ) (xs ys : List Stamp) (t : Stamp) → IsNow N clock t → From N clock xs ys → From N clock xs (t ∷ ys)
from_new N clock xs ys t now f s h =
    elim (contains_cases t ys s h) as (λ z. Contains xs s ⊎ IsNow N clock s) [
      | inl e ↦ inr (subst (λ z. IsNow N clock z) e now)
      | inr more ↦ f s more
    ]

-- The same in front of both.
pub from_first : (N : ℕ → ℕ → Type 0) (clock : ℕ) (xs ys : List Stamp) (t : Stamp) → From N clock xs ys → From N clock (t ∷ xs) (t ∷ ys)
from_first N clock xs ys t f s h =
    elim (contains_cases t ys s h) as (λ z. Contains (t ∷ xs) s ⊎ IsNow N clock s) [
      | inl e ↦ inl (subst (λ z. Contains (t ∷ xs) z) e (contains_first t xs))
      | inr more ↦ elim (f s more) as (λ z. Contains (t ∷ xs) s ⊎ IsNow N clock s) [
        | inl p ↦ inl (contains_more t xs s p)
        | inr now ↦ inr now
      ]
    ]

-- One more in front of the first.
pub from_behind : (N : ℕ → ℕ → Type 0) (clock : ℕ) (xs ys : List Stamp) (t : Stamp) → From N clock xs ys → From N clock (t ∷ xs) ys
from_behind N clock xs ys t f s h =
    elim (f s h) as (λ z. Contains (t ∷ xs) s ⊎ IsNow N clock s) [ inl p ↦ inl (contains_more t xs s p) | inr now ↦ inr now ]

pub from_both : (N : ℕ → ℕ → Type 0) (clock : ℕ) (xs xs' ys ys' : List Stamp) → From N clock xs xs' → From N clock ys ys' → From N clock (xs ++ ys) (xs' ++ ys')
from_both N clock xs xs' ys ys' f g s h =
    elim (contains_append xs' ys' s h) as (λ z. Contains (xs ++ ys) s ⊎ IsNow N clock s) [
      | inl p ↦ elim (f s p) as (λ z. Contains (xs ++ ys) s ⊎ IsNow N clock s) [ inl q ↦ inl (contains_left xs ys s q) | inr now ↦ inr now ]
      | inr p ↦ elim (g s p) as (λ z. Contains (xs ++ ys) s ⊎ IsNow N clock s) [ inl q ↦ inl (contains_right xs ys s q) | inr now ↦ inr now ]
    ]

-- One growth after another, while the clock stands.
pub from_again : (N : ℕ → ℕ → Type 0) (c d : ℕ) (xs ys zs : List Stamp) → c ≡ d → From N c xs ys → From N d ys zs → From N d xs zs
from_again N c d xs ys zs same f g s h =
    elim (g s h) as (λ z. Contains xs s ⊎ IsNow N d s) [
      | inl p ↦ elim (f s p) as (λ z. Contains xs s ⊎ IsNow N d s) [ inl q ↦ inl q | inr now ↦ inr (now.0, now.1 ∙ same) ]
      | inr now ↦ inr now
    ]

-- ---- calls

-- A call later: it was made when it was, and what else it keeps more is new.
pub record CourseAdds (N : ℕ → ℕ → Type 0) (clock : ℕ) (c d : Course) : Type 0 where
  pub made : d.made ≡ c.made
  pub answered : (d.answered ≡ c.answered) ⊎ ((s : Stamp) × (d.answered ≡ Some s) × IsNow N clock s)
  pub samples : (s : Sampling) → Contains d.samples s → Contains c.samples s ⊎ N s.step s.moment

-- A call of the list has this sample.
abbrev pub HasSample : List Course → Sampling → Type 0
HasSample cs s = (c : Course) × Contains cs c × Contains c.samples s

-- What the calls of the second list keep, those of the first keep, or it is new.
pub record CallsAdd (N : ℕ → ℕ → Type 0) (clock : ℕ) (cs ds : List Course) : Type 0 where
  pub made : From N clock (map (λ c. c.made) cs) (map (λ c. c.made) ds)
  pub answered : From N clock (filter_map (λ c. c.answered) cs) (filter_map (λ c. c.answered) ds)
  pub samples : (d : Course) (s : Sampling) → Contains ds d → Contains d.samples s → HasSample cs s ⊎ N s.step s.moment

pub course_same : (N : ℕ → ℕ → Type 0) (clock : ℕ) (c : Course) → CourseAdds N clock c c
course_same N clock c = record { made = refl; answered = inl refl; samples = λ s h. inl h }

pub calls_same : (N : ℕ → ℕ → Type 0) (clock : ℕ) (cs : List Course) → CallsAdd N clock cs cs
calls_same N clock cs =
    record {
      made = from_same N clock (map (λ c. c.made) cs);
      answered = from_same N clock (filter_map (λ c. c.answered) cs);
      samples = λ d s h k. inl (d, h, k);
    }

pub calls_again : (N : ℕ → ℕ → Type 0) (k n : ℕ) (bs cs ds : List Course) → k ≡ n → CallsAdd N k bs cs → CallsAdd N n cs ds → CallsAdd N n bs ds
calls_again N k n bs cs ds same f g =
    record {
      made = from_again N k n (map (λ c. c.made) bs) (map (λ c. c.made) cs) (map (λ c. c.made) ds) same f.made g.made;
      answered = from_again N k n (filter_map (λ c. c.answered) bs) (filter_map (λ c. c.answered) cs) (filter_map (λ c. c.answered) ds) same f.answered g.answered;
      samples = λ d s h j. elim (g.samples d s h j) as (λ z. HasSample bs s ⊎ N s.step s.moment) [ inl p ↦ f.samples p.0 s p.1 p.2 | inr now ↦ inr now ];
    }

-- ---- a call that goes on

answer_by : (N : ℕ → ℕ → Type 0) (clock : ℕ) (o : Option Stamp) (xs ys : List Stamp) → From N clock xs ys → From N clock (cons_option o xs) (cons_option o ys)
answer_by N clock None xs ys f = f
answer_by N clock (Some t) xs ys f = from_first N clock xs ys t f

answer_behind : (N : ℕ → ℕ → Type 0) (clock : ℕ) (o : Option Stamp) (xs ys : List Stamp) → From N clock xs ys → From N clock (cons_option o xs) ys
answer_behind N clock None xs ys f = f
answer_behind N clock (Some t) xs ys f = from_behind N clock xs ys t f

answer_first : (N : ℕ → ℕ → Type 0) (clock : ℕ) (o p : Option Stamp) (xs ys : List Stamp) → (p ≡ o) ⊎ ((s : Stamp) × (p ≡ Some s) × IsNow N clock s)
    → From N clock xs ys → From N clock (cons_option o xs) (cons_option p ys)
answer_first N clock o p xs ys (inl e) f = subst (λ q. From N clock (cons_option o xs) (cons_option q ys)) (sym e) (answer_by N clock o xs ys f)
answer_first N clock o p xs ys (inr t) f =
    subst (λ q. From N clock (cons_option o xs) (cons_option q ys)) (sym t.1) (from_new N clock (cons_option o xs) ys t.0 t.2 (answer_behind N clock o xs ys f))

made_first : (N : ℕ → ℕ → Type 0) (clock : ℕ) (s t : Stamp) (xs ys : List Stamp) → t ≡ s → From N clock xs ys → From N clock (s ∷ xs) (t ∷ ys)
made_first N clock s t xs ys e f = subst (λ z. From N clock (s ∷ xs) (z ∷ ys)) (sym e) (from_first N clock xs ys s f)

sample_first : (N : ℕ → ℕ → Type 0) (clock : ℕ) (c d : Course) (cs ds : List Course) → CourseAdds N clock c d → CallsAdd N clock cs ds
    → (x : Course) (s : Sampling) → Contains (d ∷ ds) x → Contains x.samples s → HasSample (c ∷ cs) s ⊎ N s.step s.moment
sample_first N clock c d cs ds one f x s h k =
    elim (contains_cases d ds x h) as (λ z. HasSample (c ∷ cs) s ⊎ N s.step s.moment) [
      | inl e ↦ elim (one.samples s (subst (λ (y : Course). Contains y.samples s) (sym e) k)) as (λ z. HasSample (c ∷ cs) s ⊎ N s.step s.moment) [
        | inl p ↦ inl (c, contains_first c cs, p)
        | inr now ↦ inr now
      ]
      | inr more ↦ elim (f.samples x s more k) as (λ z. HasSample (c ∷ cs) s ⊎ N s.step s.moment) [
        | inl p ↦ inl (p.0, contains_more c cs p.0 p.1, p.2)
        | inr now ↦ inr now
      ]
    ]

calls_first : (N : ℕ → ℕ → Type 0) (clock : ℕ) (c d : Course) (cs ds : List Course) → CourseAdds N clock c d → CallsAdd N clock cs ds
    → CallsAdd N clock (c ∷ cs) (d ∷ ds)
calls_first N clock c d cs ds one f =
    record {
      made = made_first N clock c.made d.made (map (λ x. x.made) cs) (map (λ x. x.made) ds) one.made f.made;
      answered = answer_first N clock c.answered d.answered (filter_map (λ x. x.answered) cs) (filter_map (λ x. x.answered) ds) one.answered f.answered;
      samples = sample_first N clock c d cs ds one f;
    }

changed_one : (N : ℕ → ℕ → Type 0) (clock : ℕ) (t : Bool) (f : Course → Course) (c : Course) → CourseAdds N clock c (f c) → CourseAdds N clock c (changed_if t f c)
changed_one N clock true f c h = h
changed_one N clock false f c h = course_same N clock c

pub calls_changed : (N : ℕ → ℕ → Type 0) (clock : ℕ) (p : Course → Bool) (f : Course → Course) (cs : List Course) → ((c : Course) → CourseAdds N clock c (f c))
    → CallsAdd N clock cs (map (λ c. changed_if (p c) f c) cs)
calls_changed N clock p f [] h = calls_same N clock []
calls_changed N clock p f (c ∷ cs) h =
    calls_first N clock c (changed_if (p c) f c) cs (map (λ c. changed_if (p c) f c) cs) (changed_one N clock (p c) f c (h c)) (calls_changed N clock p f cs h)

-- ---- calls that are submitted

no_sample : (now : Stamp) (n : ℕ) (c : Call) (x : Course) (s : Sampling) → new_course now n c ≡ x → Contains x.samples s → ⊥
no_sample now n c x s e h = contains_none s (subst (λ (y : Course). Contains y.samples s) (sym e) h)

call_new : (N : ℕ → ℕ → Type 0) (clock : ℕ) (now : Stamp) (n : ℕ) (cs : List Course) (c : Call) → IsNow N clock now → CallsAdd N clock cs (new_course now n c ∷ cs)
call_new N clock now n cs c is =
    record {
      made = from_new N clock (map (λ x. x.made) cs) (map (λ x. x.made) cs) now is (from_same N clock (map (λ x. x.made) cs));
      answered = from_same N clock (filter_map (λ x. x.answered) cs);
      samples = λ x s h k.
          elim (contains_cases (new_course now n c) cs x h) as (λ z. HasSample cs s ⊎ N s.step s.moment) [
            | inl e ↦ absurd (no_sample now n c x s e k)
            | inr more ↦ inl (x, more, k)
          ];
    }

pub calls_submitted : (N : ℕ → ℕ → Type 0) (clock : ℕ) (now : Stamp) (n : ℕ) (cs : List Course) (calls : List Call) → IsNow N clock now
    → CallsAdd N clock cs (fold (λ xs c. new_course now n c ∷ xs) cs calls)
calls_submitted N clock now n cs [] is = calls_same N clock cs
calls_submitted N clock now n cs (c ∷ calls) is =
    calls_again N clock clock cs (new_course now n c ∷ cs) (fold (λ xs d. new_course now n d ∷ xs) (new_course now n c ∷ cs) calls) refl
    (call_new N clock now n cs c is) (calls_submitted N clock now n (new_course now n c ∷ cs) calls is)
