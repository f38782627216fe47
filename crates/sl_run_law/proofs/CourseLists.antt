-- Lists of courses that go on.
use Rattle.sl_run.specs.EventChanges.{new_course}
use Rattle.sl_run.specs.Worlds.{Course, Stamp}
use Rattle.sl_run_law.proofs.WorldsGoOn.{grown_again}
use Rattle.sl_run_law.specs.CoursesGoOn.{Appended, ListGoes, Continues, Follow}
use Rattle.sl_run_law.specs.FatesStay.{Every}
use Rattle.sl_run_law.specs.WorldsGoOn.{Grown}
use Rattle.sl_trace.specs.declared.effects.Call.{Call}
use Rattle.std.proofs.Common.{ap, refl, subst, sym, ◌∙◌}
use Rattle.std.proofs.lemmas.List.{append-nil, append_assoc}
use Rattle.std.specs.Prelude.{Bool, List, false, fold, map, true, [], ℕ, ◌++◌, ◌∷◌, ◌≡◌}

-- ---- behind

pub none_appended : {A : Type 0} (xs : List A) → Appended xs xs
none_appended xs = record { newer = []; same = sym (append-nil xs) }

pub appended_again : {A : Type 0} (a b c : List A) → Appended a b → Appended b c → Appended a c
appended_again a b c g h = record { newer = g.newer ++ h.newer; same = h.same ∙ ap (λ xs. xs ++ h.newer) g.same ∙ append_assoc a g.newer h.newer }

pub continues_still : (c : Course) → Continues c c
continues_still c =
    record {
      call = refl;
      daemon = refl;
      made = refl;
      sampled = none_appended c.sampled;
      samples = none_appended c.samples;
    }

pub continues_further : (c d e : Course) → Continues c d → Continues d e → Continues c e
continues_further c d e g h =
    record {
      call = h.call ∙ g.call;
      daemon = h.daemon ∙ g.daemon;
      made = h.made ∙ g.made;
      sampled = appended_again c.sampled d.sampled e.sampled g.sampled h.sampled;
      samples = appended_again c.samples d.samples e.samples g.samples h.samples;
    }

-- ---- one after another

abbrev pub StillCourse : {A : Type 0} → (A → A → Type 0) → Type 0
StillCourse {A = A} C = (c : A) → C c c

abbrev pub FurtherCourse : {A : Type 0} → (A → A → Type 0) → Type 0
FurtherCourse {A = A} C = (c d e : A) → C c d → C d e → C c e

pub every_of : {A : Type 0} (P : A → Type 0) (cs : List A) → ((c : A) → P c) → Every P cs
every_of P [] h = tt
every_of P (c ∷ cs) h = (h c, every_of P cs h)

pub follow_still : {A : Type 0} (C : A → A → Type 0) (cs : List A) → StillCourse C → Follow C cs cs
follow_still C [] still = tt
follow_still C (c ∷ cs) still = (still c, follow_still C cs still)

follow_further : {A : Type 0} (C : A → A → Type 0) (cs ds es : List A) → FurtherCourse C → Follow C cs ds → Follow C ds es → Follow C cs es
follow_further C [] [] [] further g h = tt
follow_further C [] [] (e ∷ es) further g h = absurd h
follow_further C [] (d ∷ ds) es further g h = absurd g
follow_further C (c ∷ cs) [] es further g h = absurd g
follow_further C (c ∷ cs) (d ∷ ds) [] further g h = absurd h
follow_further C (c ∷ cs) (d ∷ ds) (e ∷ es) further g h = (further c d e g.0 h.0, follow_further C cs ds es further g.1 h.1)

-- What follows two lists is two lists.
record Split {A : Type 0} (C : A → A → Type 0) (ys zs : List A) : Type 0 where
  front : List A
  back : List A
  same : zs ≡ front ++ back
  follow : Follow C ys back

split_on : {A : Type 0} (C : A → A → Type 0) (z : A) (ys zs : List A) → Split C ys zs → Split C ys (z ∷ zs)
split_on C z ys zs s = record { front = z ∷ s.front; back = s.back; same = ap (λ l. z ∷ l) s.same; follow = s.follow }

split : {A : Type 0} (C : A → A → Type 0) (xs ys zs : List A) → Follow C (xs ++ ys) zs → Split C ys zs
split C [] ys zs h = record { front = []; back = zs; same = refl; follow = h }
split C (x ∷ xs) ys [] h = absurd h
split C (x ∷ xs) ys (z ∷ zs) h = split_on C z ys zs (split C xs ys zs h.1)

pub calls_still : {A : Type 0} (C : A → A → Type 0) (cs : List A) → StillCourse C → ListGoes C cs cs
calls_still C cs still = record { newer = []; older = cs; same = refl; follow = follow_still C cs still }

pub calls_further : {A : Type 0} (C : A → A → Type 0) (ps bs cs : List A) → FurtherCourse C → ListGoes C ps bs → ListGoes C bs cs → ListGoes C ps cs
calls_further C ps bs cs further g h =
    let s = split C g.newer g.older h.older (subst (λ xs. Follow C xs h.older) g.same h.follow) in
    record {
      newer = h.newer ++ s.front;
      older = s.back;
      same = h.same ∙ ap (λ xs. h.newer ++ xs) s.same ∙ sym (append_assoc h.newer s.front s.back);
      follow = follow_further C ps g.older s.back further g.follow s.follow;
    }

-- ---- what changes them

-- A course that is changed where the test holds.
abbrev pub changed_if : {A : Type 0} → Bool → (A → A) → A → A
changed_if t f c = elim t [ true ↦ f c | false ↦ c ]

one_changed : {A : Type 0} (C : A → A → Type 0) (t : Bool) (f : A → A) (c : A) → StillCourse C → (t ≡ true → C c (f c)) → C c (changed_if t f c)
one_changed C true f c still h = h refl
one_changed C false f c still h = still c

follow_changed : {A : Type 0} (C : A → A → Type 0) (p : A → Bool) (f : A → A) (cs : List A) → StillCourse C
    → Every (λ c. p c ≡ true → C c (f c)) cs → Follow C cs (map (λ c. changed_if (p c) f c) cs)
follow_changed C p f [] still h = tt
follow_changed C p f (c ∷ cs) still h = (one_changed C (p c) f c still h.0, follow_changed C p f cs still h.1)

pub calls_changed : {A : Type 0} (C : A → A → Type 0) (p : A → Bool) (f : A → A) (cs : List A) → StillCourse C
    → Every (λ c. p c ≡ true → C c (f c)) cs → ListGoes C cs (map (λ c. changed_if (p c) f c) cs)
calls_changed C p f cs still h = record { newer = []; older = map (λ c. changed_if (p c) f c) cs; same = refl; follow = follow_changed C p f cs still h }

calls_made : (now : Stamp) (n : ℕ) (cs : List Course) (calls : List Call) → Grown cs (fold (λ xs c. new_course now n c ∷ xs) cs calls)
calls_made now n cs [] = record { newer = []; same = refl }
calls_made now n cs (c ∷ calls) =
    grown_again cs (new_course now n c ∷ cs) (fold (λ xs d. new_course now n d ∷ xs) (new_course now n c ∷ cs) calls)
    (record { newer = new_course now n c ∷ []; same = refl }) (calls_made now n (new_course now n c ∷ cs) calls)

pub calls_submitted : (C : Course → Course → Type 0) (now : Stamp) (n : ℕ) (cs : List Course) (calls : List Call) → StillCourse C
    → ListGoes C cs (fold (λ xs c. new_course now n c ∷ xs) cs calls)
calls_submitted C now n cs calls still =
    let g = calls_made now n cs calls in
    record { newer = g.newer; older = cs; same = g.same; follow = follow_still C cs still }
