-- Lists of forms that share their first tests, or that begin with one test or with another that takes no word of the first: what is read
-- of them is read of the words that these tests take, and then of the forms that go on.
use Rattle.sl_command.specs.VerbReads.{flag_read}
use Rattle.sl_text.proofs.FormLaws.{read_by-map}
use Rattle.sl_text.specs.Forms.{Form, exactly, word_at}
use Rattle.sl_text.specs.Walks.{Unread, column_behind, form_with, forms_behind, going_on, made_at_end, next_as, next_passes, past_word, read_by, read_from}
use Rattle.sl_words.specs.Results.{◌>>=◌}
use Rattle.sl_words.specs.Words.{is_empty}
use Rattle.std.proofs.Common.{Bool, List, [], ap, append-nil, false, map, refl, sym, true, ℕ, ◌++◌, ◌||◌, ◌≡◌, ◌∙◌, ◌∷◌}
use Rattle.std.specs.Option.{ok_or}
use Rattle.std.specs.Prelude.{Err, Ok, Result, if◌then◌else◌}

-- ---- the next word, and what is made of it

-- What the next word stands for is made of the word.
then_of : {A B : Type 0} (t : Bool) (w : List ℕ) (value : List ℕ → A) (column : ℕ) (next : A → Result B ℕ)
    → ((if t then Ok (value w) else Err column) >>= next) ≡ ((if t then Ok w else Err column) >>= λ v. next (value v))
then_of true w value column next = refl
then_of false w value column next = refl

pub next_as-value : {A B : Type 0} (p : List ℕ → Bool) (value : List ℕ → A) (next : A → Result B ℕ) (u : Unread)
    → (next_as p value u >>= next) ≡ (next_as p (λ w. w) u >>= λ w. next (value w))
next_as-value p value next u = then_of (next_passes p u) (word_at u.words 0) value u.column next

-- Two ways to go on behind a word that passes.
same_from : {B : Type 0} (p : List ℕ → Bool) (column : ℕ) (ws : List (List ℕ)) (f g : List ℕ → Result B ℕ) → ((w : List ℕ) → p w ≡ true → f w ≡ g w)
    → (next_as p (λ w. w) (record { column = column; words = ws }) >>= f) ≡ (next_as p (λ w. w) (record { column = column; words = ws }) >>= g)
same_from p column [] f g same = refl
same_from {B} p column (w ∷ ws) f g same =
    elim (p w) as (λ t. p w ≡ t → ((if t then Ok w else Err column) >>= f) ≡ ((if t then Ok w else Err column) >>= g)) [ true ↦ λ e. same w e | false ↦ λ e. refl ] refl

next_as-same : {B : Type 0} (p : List ℕ → Bool) (f g : List ℕ → Result B ℕ) (u : Unread) → ((w : List ℕ) → p w ≡ true → f w ≡ g w)
    → (next_as p (λ w. w) u >>= f) ≡ (next_as p (λ w. w) u >>= g)
next_as-same p f g u same = same_from p u.column u.words f g same

-- ---- lists of forms

-- A form with one more test before the others.
abbrev pub behind_test : {A : Type 0} → (List ℕ → Bool) → Form A → Form A
behind_test p f = record { words = p ∷ f.words; make = f.make }

-- What goes on behind a word of which the form makes use.
abbrev pub behind_word : {A : Type 0} → List ℕ → Form A → Form A
behind_word w f = record { words = f.words; make = λ vs. f.make (w ∷ vs) }

-- Some forms.
pub map_some : {A B : Type 0} (f : A → B) (xs : List A) → is_empty xs ≡ false → is_empty (map f xs) ≡ false
map_some f [] some = some
map_some f (x ∷ xs) some = refl

pub some_before : {A : Type 0} (xs ys : List A) → is_empty xs ≡ false → is_empty (xs ++ ys) ≡ false
some_before [] ys some = absurd cc
some_before (x ∷ xs) ys some = refl

going_some : {A : Type 0} (gs : List (Form A)) (column : ℕ) (next : List (Form A) → Result A ℕ) → is_empty gs ≡ false → going_on gs column next ≡ next gs
going_some [] column next some = absurd cc
going_some (g ∷ gs) column next some = refl

-- A word is used behind a later test.
word_before_test : {A : Type 0} (p : List ℕ → Bool) (w : List ℕ) (fs gs : List (Form A))
    → map (behind_word w) (map (behind_test p) fs ++ gs) ≡ map (behind_test p) (map (behind_word w) fs) ++ map (behind_word w) gs
word_before_test p w [] gs = refl
word_before_test p w (f ∷ fs) gs = ap (λ hs. behind_test p (behind_word w f) ∷ hs) (word_before_test p w fs gs)

-- Forms go on where their first test passes.
none_go_on : {A : Type 0} (t : Bool) (gs : List A) → gs ≡ (if t then [] else []) ++ gs
none_go_on true gs = refl
none_go_on false gs = refl

one_goes_on : {A : Type 0} (t : Bool) (x : A) (xs rest : List A) → ((if t then x ∷ [] else []) ++ ((if t then xs else []) ++ rest)) ≡ ((if t then x ∷ xs else []) ++ rest)
one_goes_on true x xs rest = refl
one_goes_on false x xs rest = refl

forms_behind-test : {A : Type 0} (p : List ℕ → Bool) (w : List ℕ) (fs gs : List (Form A))
    → forms_behind w (map (behind_test p) fs ++ gs) ≡ (if p w then map (behind_word w) fs else []) ++ forms_behind w gs
forms_behind-test p w [] gs = none_go_on (p w) (forms_behind w gs)
forms_behind-test p w (f ∷ fs) gs =
    ap (λ hs. (if p w then behind_word w f ∷ [] else []) ++ hs) (forms_behind-test p w fs gs)
    ∙ one_goes_on (p w) (behind_word w f) (map (behind_word w) fs) (forms_behind w gs)

-- Before the word none of them is at its end.
made_at_end-test : {A : Type 0} (p : List ℕ → Bool) (fs gs : List (Form A)) → made_at_end (map (behind_test p) fs ++ gs) ≡ made_at_end gs
made_at_end-test p [] gs = refl
made_at_end-test p (f ∷ fs) gs = made_at_end-test p fs gs

-- ---- forms that share a test

shared_word : {A : Type 0} (t : Bool) (fs : List (Form A)) (column : ℕ) (next : List (Form A) → Result A ℕ) (w : List ℕ) (rest : List ℕ → Result A ℕ)
    → is_empty fs ≡ false → rest w ≡ next fs → going_on ((if t then fs else []) ++ []) column next ≡ ((if t then Ok w else Err column) >>= rest)
shared_word true fs column next w rest some is = ap (λ gs. going_on gs column next) (append-nil fs) ∙ going_some fs column next some ∙ sym is
shared_word false fs column next w rest some is = refl

shared_from : {A : Type 0} (p : List ℕ → Bool) (fs : List (Form A)) (column : ℕ) (ws : List (List ℕ)) → is_empty fs ≡ false
    → read_from (map (behind_test p) fs ++ []) column ws
    ≡ (next_as p (λ w. w) (record { column = column; words = ws }) >>= λ w. read_by (map (behind_word w) fs) (past_word (record { column = column; words = ws })))
shared_from p fs column [] some = ap (λ o. ok_or o column) (made_at_end-test p fs [])
shared_from {A} p fs column (w ∷ ws) some =
    let next : List (Form A) → Result A ℕ = (λ gs. read_from gs (column_behind column (w ∷ ws)) ws) in
    ap (λ gs. going_on gs column next) (forms_behind-test p w fs [])
    ∙ shared_word (p w) (map (behind_word w) fs) column next w (λ v. next (map (behind_word v) fs)) (map_some (behind_word w) fs some) refl

-- Forms that all begin with this test read the word that it takes, and go on.
pub read_by-shared : {A : Type 0} (p : List ℕ → Bool) (fs : List (Form A)) (u : Unread) → is_empty fs ≡ false
    → read_by (map (behind_test p) fs) u ≡ (next_as p (λ w. w) u >>= λ w. read_by (map (behind_word w) fs) (past_word u))
read_by-shared p fs u some = ap (λ gs. read_by gs u) (sym (append-nil (map (behind_test p) fs))) ∙ shared_from p fs u.column u.words some

-- ---- forms that begin with one test or another

forked_word : {A : Type 0} (s t : Bool) (fs gs : List (Form A)) (column : ℕ) (next : List (Form A) → Result A ℕ) (w : List ℕ) (rest : List ℕ → Result A ℕ)
    → is_empty fs ≡ false → is_empty gs ≡ false → (s ≡ true → t ≡ false) → rest w ≡ (if s then next fs else next gs)
    → going_on ((if s then fs else []) ++ ((if t then gs else []) ++ [])) column next ≡ ((if s || t then Ok w else Err column) >>= rest)
forked_word true true fs gs column next w rest some more apart is = let e = apart refl in absurd cc
forked_word true false fs gs column next w rest some more apart is = ap (λ hs. going_on hs column next) (append-nil fs) ∙ going_some fs column next some ∙ sym is
forked_word false true fs gs column next w rest some more apart is = ap (λ hs. going_on hs column next) (append-nil gs) ∙ going_some gs column next more ∙ sym is
forked_word false false fs gs column next w rest some more apart is = refl

-- What is read behind the word that decides.
abbrev behind_fork : {A : Type 0} → (List ℕ → Bool) → List (Form A) → List (Form A) → Unread → List ℕ → Result A ℕ
behind_fork p fs gs u w = if p w then read_by (map (behind_word w) fs) u else read_by (map (behind_word w) gs) u

forked_from : {A : Type 0} (p q : List ℕ → Bool) (fs gs : List (Form A)) (column : ℕ) (ws : List (List ℕ)) → is_empty fs ≡ false → is_empty gs ≡ false
    → ((w : List ℕ) → p w ≡ true → q w ≡ false)
    → read_from (map (behind_test p) fs ++ (map (behind_test q) gs ++ [])) column ws
    ≡ (next_as (λ w. p w || q w) (λ w. w) (record { column = column; words = ws }) >>= behind_fork p fs gs (past_word (record { column = column; words = ws })))
forked_from p q fs gs column [] some more apart =
    ap (λ o. ok_or o column) (made_at_end-test p fs (map (behind_test q) gs ++ [])) ∙ ap (λ o. ok_or o column) (made_at_end-test q gs [])
forked_from {A} p q fs gs column (w ∷ ws) some more apart =
    let next : List (Form A) → Result A ℕ = (λ hs. read_from hs (column_behind column (w ∷ ws)) ws) in
    ap (λ hs. going_on hs column next) (forms_behind-test p w fs (map (behind_test q) gs ++ []))
    ∙ ap (λ hs. going_on ((if p w then map (behind_word w) fs else []) ++ hs) column next) (forms_behind-test q w gs [])
    ∙ forked_word (p w) (q w) (map (behind_word w) fs) (map (behind_word w) gs) column next w (behind_fork p fs gs (past_word (record { column = column; words = w ∷ ws })))
    (map_some (behind_word w) fs some) (map_some (behind_word w) gs more) (apart w) refl

-- They read the word that either test takes, and those go on whose test it was.
read_by-forked : {A : Type 0} (p q : List ℕ → Bool) (fs gs : List (Form A)) (u : Unread) → is_empty fs ≡ false → is_empty gs ≡ false
    → ((w : List ℕ) → p w ≡ true → q w ≡ false)
    → read_by (map (behind_test p) fs ++ map (behind_test q) gs) u ≡ (next_as (λ w. p w || q w) (λ w. w) u >>= behind_fork p fs gs (past_word u))
read_by-forked p q fs gs u some more apart =
    ap (λ hs. read_by (map (behind_test p) fs ++ hs) u) (sym (append-nil (map (behind_test q) gs))) ∙ forked_from p q fs gs u.column u.words some more apart

-- ---- a flag, a word, and what stands behind it

-- What is read so.
abbrev pub flagged : {A B C : Type 0} → List ℕ → (List ℕ → Bool) → (List ℕ → A) → (A → Unread → Result B ℕ) → (A → B → C) → Unread → Result C ℕ
flagged flag p value behind make u =
    flag_read flag u >>= λ _. next_as p value (past_word u) >>= λ a. behind a (past_word (past_word u)) >>= λ b. Ok (make a b)

-- The word passes, and what is read behind it is what these forms make.
abbrev ReadBehind : {A B C : Type 0} → (List ℕ → Bool) → (List ℕ → A) → (A → Unread → Result B ℕ) → (A → B → C) → List (Form C) → Type 0
ReadBehind p value behind make fs =
    (f w : List ℕ) (v : Unread) → p w ≡ true → (behind (value w) v >>= λ b. Ok (make (value w) b)) ≡ read_by (map (behind_word w) (map (behind_word f) fs)) v

-- Forms that begin with a flag.
flag_forms : {A B C : Type 0} (flag : List ℕ) (p : List ℕ → Bool) (value : List ℕ → A) (behind : A → Unread → Result B ℕ) (make : A → B → C) (fs : List (Form C)) (u : Unread)
    → is_empty fs ≡ false → (next : List ℕ → List ℕ → Result C ℕ)
    → ((f : List ℕ) → read_by (map (behind_word f) fs) (past_word u) ≡ (next_as p (λ w. w) (past_word u) >>= next f))
    → ((f w : List ℕ) → p w ≡ true → (behind (value w) (past_word (past_word u)) >>= λ b. Ok (make (value w) b)) ≡ next f w)
    → flagged flag p value behind make u ≡ read_by (map (behind_test (exactly flag)) fs) u
flag_forms flag p value behind make fs u some next goes same =
    let v : Unread = past_word u in
    next_as-value {A = Unit {0}} (exactly flag) (λ _. tt) (λ _. next_as p value v >>= λ a. behind a (past_word v) >>= λ b. Ok (make a b)) u
    ∙ next_as-same (exactly flag) (λ _. next_as p value v >>= λ a. behind a (past_word v) >>= λ b. Ok (make a b)) (λ f. read_by (map (behind_word f) fs) v) u (λ f e.
    next_as-value p value (λ a. behind a (past_word v) >>= λ b. Ok (make a b)) v
    ∙ next_as-same p (λ w. behind (value w) (past_word v) >>= λ b. Ok (make (value w) b)) (next f) v (λ w h. same f w h) ∙ sym (goes f))
    ∙ sym (read_by-shared (exactly flag) fs u some)

-- One kind of word behind the flag.
pub one_kind : {A B C : Type 0} (flag : List ℕ) (p : List ℕ → Bool) (value : List ℕ → A) (behind : A → Unread → Result B ℕ) (make : A → B → C) (fs : List (Form C)) (u : Unread)
    → is_empty fs ≡ false → ReadBehind p value behind make fs
    → flagged flag p value behind make u ≡ read_by (map (behind_test (exactly flag)) (map (behind_test p) fs)) u
one_kind {A} {B} {C} flag p value behind make fs u some reads =
    let v : Unread = past_word u in
    flag_forms flag p value behind make (map (behind_test p) fs) u (map_some (behind_test p) fs some)
    (λ f w. read_by (map (behind_word w) (map (behind_word f) fs)) (past_word v))
    (λ f. ap (λ gs. read_by gs v) (ap (map (behind_word f)) (sym (append-nil (map (behind_test p) fs))) ∙ word_before_test p f fs [] ∙ append-nil (map (behind_test p) (map (behind_word f) fs)))
    ∙ read_by-shared p (map (behind_word f) fs) v (map_some (behind_word f) fs some))
    (λ f w h. reads f w (past_word v) h)

-- The kind that it is.
of_kind : {X : Type 0} (s t : Bool) (x a b : X) → (s ≡ true → x ≡ a) → (t ≡ true → x ≡ b) → (s || t) ≡ true → x ≡ (if s then a else b)
of_kind true t x a b first second h = first refl
of_kind false true x a b first second h = second refl
of_kind false false x a b first second h = absurd cc

-- Two kinds of words behind the flag, of which no word is both.
pub two_kinds : {A B C : Type 0} (flag : List ℕ) (p q : List ℕ → Bool) (value : List ℕ → A) (behind : A → Unread → Result B ℕ) (make : A → B → C)
    (fs gs : List (Form C)) (u : Unread) → is_empty fs ≡ false → is_empty gs ≡ false → ((w : List ℕ) → p w ≡ true → q w ≡ false)
    → ReadBehind p value behind make fs → ReadBehind q value behind make gs
    → flagged flag (λ w. p w || q w) value behind make u ≡ read_by (map (behind_test (exactly flag)) (map (behind_test p) fs ++ map (behind_test q) gs)) u
two_kinds {A} {B} {C} flag p q value behind make fs gs u some more apart first second =
    let v : Unread = past_word u in
    let qs : List (Form C) = map (behind_test q) gs in
    flag_forms flag (λ w. p w || q w) value behind make (map (behind_test p) fs ++ qs) u (some_before (map (behind_test p) fs) qs (map_some (behind_test p) fs some))
    (λ f. behind_fork p (map (behind_word f) fs) (map (behind_word f) gs) (past_word v))
    (λ f. ap (λ hs. read_by hs v) (word_before_test p f fs qs
    ∙ ap (λ hs. map (behind_test p) (map (behind_word f) fs) ++ hs)
    (ap (map (behind_word f)) (sym (append-nil qs)) ∙ word_before_test q f gs [] ∙ append-nil (map (behind_test q) (map (behind_word f) gs))))
    ∙ read_by-forked p q (map (behind_word f) fs) (map (behind_word f) gs) v (map_some (behind_word f) fs some) (map_some (behind_word f) gs more) apart)
    (λ f w h. of_kind (p w) (q w) _ _ _ (first f w (past_word v)) (second f w (past_word v)) h)

-- Forms behind the word whose values are made of it and of what these forms make.
pub made_behind : {A B C : Type 0} (a : A) (behind : Unread → Result B ℕ) (make : A → B → C) (tails : List (Form B)) (v : Unread)
    → behind v ≡ read_by tails v → (behind v >>= λ b. Ok (make a b)) ≡ read_by (map (form_with (make a)) tails) v
made_behind a behind make tails v is = ap (λ r. r >>= λ b. Ok (make a b)) is ∙ sym (read_by-map (make a) tails v)

-- Behind a verb some forms go on.
pub some_go_on : {A : Type 0} (gs : List (Form A)) (u : Unread) → is_empty gs ≡ false → going_on gs u.column (λ hs. read_by hs (past_word u)) ≡ read_by gs (past_word u)
some_go_on gs u some = going_some gs u.column (λ hs. read_by hs (past_word u)) some
