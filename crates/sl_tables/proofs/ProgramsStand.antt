-- What a table of kill programs shows.
use Rattle.indexmap.specs.IndexMap.{insert_entry}
use Rattle.sl_tables.specs.KillPrograms.{AreApart, ProgramsState, program_at, programs_of}
use Rattle.sl_trace.specs.KillPrograms.{KillProgram, with_program, without_program}
use Rattle.std.proofs.Common.{ap, refl, sym, ◌∙◌}
use Rattle.std.proofs.lemmas.List.Folds.{find-append}
use Rattle.std.proofs.lemmas.List.{append-nil, reverse-append}
use Rattle.std.specs.Cmp.{nat_eq_equiv}
use Rattle.std.specs.List.{AllByRecursion}
use Rattle.std.specs.Map.{lookup}
use Rattle.std.specs.Option.{option_or}
use Rattle.std.specs.Prelude.{Bool, List, None, Option, Some, [], cond, false, filter, find, map, nat_eq, not, option_map, reverse, true, ℕ, ◌++◌, ◌-◌, ◌==◌, ◌∷◌, ◌≡◌}

abbrev Entry : Type 0
Entry = ℕ × List ℕ

abbrev others : ℕ → List Entry → List Entry
others n es = filter (λ p. not (nat_eq n p.0)) es

-- ---- one more, behind all that are there

pub new_entry : (n : ℕ) (v : List ℕ) (es : List Entry) → insert_entry nat_eq (others n es) n v ≡ others n es ++ (n, v) ∷ []
new_entry n v [] = refl
new_entry n v (e ∷ es) = by (nat_eq n e.0) refl (new_entry n v es)
  where
    by : (b : Bool) → nat_eq n e.0 ≡ b → insert_entry nat_eq (others n es) n v ≡ others n es ++ (n, v) ∷ []
        → insert_entry nat_eq (cond (not b) (e ∷ others n es) (others n es)) n v ≡ cond (not b) (e ∷ others n es) (others n es) ++ (n, v) ∷ []
    by true is rest = rest
    by false is rest = ap (λ b. cond b ((e.0, v) ∷ others n es) (e ∷ insert_entry nat_eq (others n es) n v)) is ∙ ap (λ zs. e ∷ zs) rest

pub shown_push : (es : List Entry) (n : ℕ) (v : List ℕ) → programs_of (es ++ (n, v) ∷ []) ≡ record { process = n; program = v } ∷ programs_of es
shown_push es n v = ap reverse (maps es) ∙ reverse-append (map program_at es) (program_at (n, v) ∷ [])
  where
    maps : (es : List Entry) → map program_at (es ++ (n, v) ∷ []) ≡ map program_at es ++ program_at (n, v) ∷ []
    maps [] = refl
    maps (e ∷ es) = ap (λ ks. program_at e ∷ ks) (maps es)

-- ---- those of other processes

filter_append : (p : KillProgram → Bool) (xs ys : List KillProgram) → filter p (xs ++ ys) ≡ filter p xs ++ filter p ys
filter_append p [] ys = refl
filter_append p (x ∷ xs) ys = by (p x) (filter_append p xs ys)
  where
    by : (b : Bool) → filter p (xs ++ ys) ≡ filter p xs ++ filter p ys → cond b (x ∷ filter p (xs ++ ys)) (filter p (xs ++ ys)) ≡ cond b (x ∷ filter p xs) (filter p xs) ++ filter p ys
    by true rest = ap (λ zs. x ∷ zs) rest
    by false rest = rest

shown_more : (e : Entry) (es : List Entry) → programs_of (e ∷ es) ≡ programs_of es ++ program_at e ∷ []
shown_more e es = reverse-append (program_at e ∷ []) (map program_at es)

pub shown_others : (n : ℕ) (es : List Entry) → programs_of (others n es) ≡ without_program (Some n) (programs_of es)
shown_others n [] = refl
shown_others n (e ∷ es) =
    by (nat_eq n e.0) (shown_others n es)
    ∙ (sym (filter_append (λ k. not (n == k.process)) (programs_of es) (program_at e ∷ [])) ∙ ap (λ ks. without_program (Some n) ks) (sym (shown_more e es)))
  where
    by : (b : Bool) → programs_of (others n es) ≡ without_program (Some n) (programs_of es)
        → programs_of (cond (not b) (e ∷ others n es) (others n es)) ≡ without_program (Some n) (programs_of es) ++ cond (not b) (program_at e ∷ []) []
    by true rest = rest ∙ sym (append-nil (without_program (Some n) (programs_of es)))
    by false rest = shown_more e (others n es) ∙ ap (λ ks. ks ++ program_at e ∷ []) rest

-- ---- each process has one

kept : (P : Entry → Type 0) (p : Entry → Bool) (es : List Entry) → AllByRecursion P es → AllByRecursion P (filter p es)
kept P p [] h = h
kept P p (e ∷ es) h = by (p e) (kept P p es h.1)
  where
    by : (b : Bool) → AllByRecursion P (filter p es) → AllByRecursion P (cond b (e ∷ filter p es) (filter p es))
    by true rest = (h.0, rest)
    by false rest = rest

pub apart_others : (n : ℕ) (es : List Entry) → AreApart es → AreApart (others n es)
apart_others n [] h = h
apart_others n (e ∷ es) h = by (nat_eq n e.0) (apart_others n es h.1)
  where
    by : (b : Bool) → AreApart (others n es) → AreApart (cond (not b) (e ∷ others n es) (others n es))
    by true rest = rest
    by false rest = (kept (λ q. nat_eq e.0 q.0 ≡ false) (λ p. not (nat_eq n p.0)) es h.0, rest)

all_push : (P : Entry → Type 0) (es : List Entry) (e : Entry) → P e → AllByRecursion P es → AllByRecursion P (es ++ e ∷ [])
all_push P [] e new h = (new, tt)
all_push P (d ∷ es) e new h = (h.0, all_push P es e new h.1)

pub apart_push : (n : ℕ) (v : List ℕ) (es : List Entry) → AreApart es → AreApart (others n es ++ (n, v) ∷ [])
apart_push n v [] h = (tt, tt)
apart_push n v (e ∷ es) h = by (nat_eq n e.0) refl (apart_push n v es h.1)
  where
    by : (b : Bool) → nat_eq n e.0 ≡ b → AreApart (others n es ++ (n, v) ∷ []) → AreApart (cond (not b) (e ∷ others n es) (others n es) ++ (n, v) ∷ [])
    by true is rest = rest
    by false is rest =
        (all_push (λ q. nat_eq e.0 q.0 ≡ false) (others n es) (n, v) (nat_eq_equiv.symm e.0 n ∙ is) (kept (λ q. nat_eq e.0 q.0 ≡ false) (λ p. not (nat_eq n p.0)) es h.0), rest)

-- ---- the program of a process

none_there : (n : ℕ) (e : Entry) (es : List Entry) → nat_eq n e.0 ≡ true → AllByRecursion (λ q. nat_eq e.0 q.0 ≡ false) es → find (λ (k : KillProgram). k.process == n) (programs_of es) ≡ None
none_there n e [] is h = refl
none_there n e (d ∷ es) is h =
    ap (λ ks. find (λ (k : KillProgram). k.process == n) ks) (shown_more d es)
    ∙ (find-append (λ (k : KillProgram). k.process == n) (programs_of es) (program_at d ∷ [])
    ∙ (ap (λ o. option_or o (find (λ (k : KillProgram). k.process == n) (program_at d ∷ []))) (none_there n e es is h.1)
    ∙ ap (λ b. cond b (Some (program_at d)) None) (nat_eq_equiv.symm d.0 n ∙ (nat_eq_equiv.congr n e.0 d.0 is ∙ h.0))))

pub shown_one : (n : ℕ) (es : List Entry) → AreApart es → lookup (nat_eq n) es ≡ option_map (λ (k : KillProgram). k.program) (find (λ (k : KillProgram). k.process == n) (programs_of es))
shown_one n [] h = refl
shown_one n (e ∷ es) h =
    by (nat_eq n e.0) refl (shown_one n es h.1)
    ∙ sym (ap (λ ks. option_map (λ (k : KillProgram). k.program) (find (λ (k : KillProgram). k.process == n) ks)) (shown_more e es)
    ∙ (ap (λ o. option_map (λ (k : KillProgram). k.program) o) (find-append (λ (k : KillProgram). k.process == n) (programs_of es) (program_at e ∷ []))
    ∙ ap (λ b. option_map (λ (k : KillProgram). k.program) (option_or (find (λ (k : KillProgram). k.process == n) (programs_of es)) (cond b (Some (program_at e)) None))) (nat_eq_equiv.symm e.0 n)))
  where
    ends : (o : Option KillProgram) → option_or o None ≡ o
    ends None = refl
    ends (Some k) = refl

    by : (b : Bool) → nat_eq n e.0 ≡ b → lookup (nat_eq n) es ≡ option_map (λ (k : KillProgram). k.program) (find (λ (k : KillProgram). k.process == n) (programs_of es))
        → cond b (Some e.1) (lookup (nat_eq n) es)
        ≡ option_map (λ (k : KillProgram). k.program) (option_or (find (λ (k : KillProgram). k.process == n) (programs_of es)) (cond b (Some (program_at e)) None))
    by true is rest = sym (ap (λ o. option_map (λ (k : KillProgram). k.program) (option_or o (Some (program_at e)))) (none_there n e es is h.0))
    by false is rest = rest ∙ ap (λ o. option_map (λ (k : KillProgram). k.program) o) (sym (ends (find (λ (k : KillProgram). k.process == n) (programs_of es))))

-- The table with other programs.
pub shown_is : (n : ℕ) (old new : List Entry) (v : List ℕ) → new ≡ insert_entry nat_eq (others n old) n v → programs_of new ≡ with_program (Some (record { process = n; program = v })) (programs_of old)
shown_is n old new v is = ap programs_of (is ∙ new_entry n v old) ∙ (shown_push (others n old) n v ∙ ap (λ ks. record { process = n; program = v } ∷ ks) (shown_others n old))

pub left_is : (programs without : List KillProgram) (room : ℕ) (s : ProgramsState) → programs ≡ without → room ≡ s.room → record { programs = programs; room = room } ≡ record s { programs = without }
left_is programs without room s h r = λ i. record { programs = h i; room = r i }

abbrev state : List KillProgram → ℕ → ProgramsState
state programs room = record { programs = programs; room = room }

pub put_is : (programs more : List KillProgram) (room : ℕ) (s : ProgramsState) → programs ≡ more → room ≡ s.room - 1 → state programs room ≡ state more (s.room - 1)
put_is programs more room s h r = λ i. record { programs = h i; room = r i }
