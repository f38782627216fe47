-- The events whose lines may have more words or fewer, read as their two forms say; and all forms by halves.
use Rattle.sl_report.specs.Languages.{whole_language}
use Rattle.sl_report.specs.ReadLines.{command_event, event_in}
use Rattle.sl_report.specs.EventLines.{checked_event, event_forms}
use Rattle.sl_run.specs.declared.event.Event.TheVariants.{Pass, Tear}
use Rattle.sl_run.specs.declared.event.Event.{Event}
use Rattle.sl_schedule.proofs.ReadLaws.{made_as_read, two_and_two}
use Rattle.sl_schedule.specs.EventReads.{bytes_in, early_forms, growths_in, late_forms, one_word, pass_read, tear_in, tear_read}
use Rattle.sl_schedule.specs.Reads.{kept_part, machine_part, number_part, pair_in}
use Rattle.sl_text.proofs.FormLaws.{read_by-verbs}
use Rattle.sl_text.specs.Forms.{Form, exactly, fits_whole, made_by, word_at, words_of}
use Rattle.sl_text.specs.Numbers.{capped_long, hex_bytes, is_hex_word, is_number_text}
use Rattle.sl_text.specs.Walks.{Part, Unread, column_behind, forms_behind, going_on, next_part, next_passes, past_word, read_by, read_from, unread}
use Rattle.sl_words.specs.Results.{◌>>=◌}
use Rattle.sl_words.specs.Words.{choose, first_of_list, some_is}
use Rattle.std.proofs.Common.{Bool, Err, List, None, Ok, Option, Result, Some, [], ap, arith, codes, cond, drop, eqb, false, length, map, refl, replicate, suc, sym, take-append-drop, true, zero, ℕ, ◌*◌, ◌&&◌, ◌++◌, ◌∙◌, ◌∷◌, ◌≡◌}
use Rattle.std.proofs.lemmas.Bool.Decides.{nat_tests}
use Rattle.std.proofs.lemmas.Slice.Eq.{bytes_eq-Decides}
use Rattle.std.proofs.lemmas.Bool.{ne_eqb}
use Rattle.std.specs.List.{find, list_all}
use Rattle.std.specs.Option.{ok_or, option_map, option_or}
use Rattle.std.specs.Prelude.{if◌then◌else◌}
use Rattle.std.specs.Result.{result_ok}

-- ---- a form that may end, or go on

-- Two forms that begin with the same part.
part_of_two : {A E : Type 0} (p : Part A) (ps qs : List (List ℕ → Bool)) (make other : List (List ℕ) → E) (next : A → Result E ℕ) (column : ℕ) (ws : List (List ℕ))
    → let u : Unread = record { column = column; words = ws } in
    let w : List ℕ = word_at ws 0 in
    result_ok (read_by (record { words = ps; make = λ vs. make (w ∷ vs) } ∷ record { words = qs; make = λ vs. other (w ∷ vs) } ∷ []) (past_word u))
    ≡ result_ok (next (p.value w))
    → result_ok (read_by (record { words = p.passes ∷ ps; make = make } ∷ record { words = p.passes ∷ qs; make = other } ∷ []) u)
    ≡ result_ok (next_part p u >>= next)
part_of_two p ps qs make other next column [] e = refl
part_of_two {A} {E} p ps qs make other next column (w ∷ ws) e =
    elim (p.passes w) as (λ t. result_ok (going_on {A = E} ((if t then record { words = ps; make = λ vs. make (w ∷ vs) } ∷ [] else [])
    ++ ((if t then record { words = qs; make = λ vs. other (w ∷ vs) } ∷ [] else []) ++ [])) column (λ gs. read_from gs (column_behind column (w ∷ ws)) ws))
    ≡ result_ok ((if t then Ok (p.value w) else Err column) >>= next)) [ true ↦ e | false ↦ refl ]

-- The value that may come with the last word.
made_of_value : {A E : Type 0} (make : A → E) (o : Option A) → option_map make o ≡ result_ok {E = ℕ} (ok_or o 0 >>= λ a. Ok (make a))
made_of_value make None = refl
made_of_value make (Some a) = refl

-- One word more, or none.
one_more_word : {A E : Type 0} (passes : List ℕ → Bool) (value : List ℕ → A) (absent : A) (make : A → E) (column : ℕ) (ws : List (List ℕ))
    → result_ok (read_from (record { words = []; make = λ vs. make absent } ∷ record { words = passes ∷ []; make = λ vs. make (value (word_at vs 0)) } ∷ []) column ws)
    ≡ option_map make (one_word passes value absent ws)
one_more_word passes value absent make column [] = refl
one_more_word {A} {E} passes value absent make column (w ∷ []) =
    elim (passes w) as (λ t. result_ok (going_on {A = E} ((if t then record { words = []; make = λ vs. make (value w) } ∷ [] else []) ++ []) column
    (λ gs. read_from gs (column_behind column (w ∷ [])) [])) ≡ option_map make (choose t (value w))) [ true ↦ refl | false ↦ refl ]
one_more_word {A} {E} passes value absent make column (w ∷ x ∷ ws) =
    elim (passes w) as (λ t. result_ok (going_on {A = E} ((if t then record { words = []; make = λ vs. make (value w) } ∷ [] else []) ++ []) column
    (λ gs. read_from gs (column_behind column (w ∷ x ∷ ws)) (x ∷ ws))) ≡ None) [ true ↦ refl | false ↦ refl ]

-- So many words that all pass.
no_more : (n : ℕ) → eqb (suc n) 0 ≡ false
no_more n = ne_eqb (suc n) 0 (λ h. omega arith)

none_yet : (n : ℕ) → eqb 0 (suc n) ≡ false
none_yet n = ne_eqb 0 (suc n) (λ h. omega arith)

one_off : (m n : ℕ) → eqb m n ≡ eqb (suc m) (suc n)
one_off m n = grind (arith, nat_tests)

and_none : {A : Type 0} (t : Bool) (a : A) → None ≡ choose (t && false) a
and_none true a = refl
and_none false a = refl

words_alike : {E : Type 0} (passes : List ℕ → Bool) (n : ℕ) (make : List (List ℕ) → E) (column : ℕ) (ws : List (List ℕ))
    → result_ok (read_from (record { words = replicate n passes; make = make } ∷ []) column ws) ≡ choose (eqb (length ws) n && list_all passes ws) (make ws)
words_alike passes zero make column [] = refl
words_alike passes zero make column (w ∷ ws) = ap (λ t. choose (t && list_all passes (w ∷ ws)) (make (w ∷ ws))) (sym (no_more (length ws)))
words_alike passes (suc n) make column [] = ap (λ t. choose (t && true) (make [])) (sym (none_yet n))
words_alike {E} passes (suc n) make column (w ∷ ws) =
    elim (passes w) as (λ t. result_ok (going_on {A = E} ((if t then record { words = replicate n passes; make = λ vs. make (w ∷ vs) } ∷ [] else []) ++ []) column
    (λ gs. read_from gs (column_behind column (w ∷ ws)) ws)) ≡ choose (eqb (suc (length ws)) (suc n) && (t && list_all passes ws)) (make (w ∷ ws))) [
      | true ↦ words_alike passes n (λ vs. make (w ∷ vs)) (column_behind column (w ∷ ws)) ws
          ∙ ap (λ t. choose (t && list_all passes ws) (make (w ∷ ws))) (one_off (length ws) n)
      | false ↦ and_none (eqb (suc (length ws)) (suc n)) (make (w ∷ ws))
    ]

-- Two made from a choice.
option_map-chosen : {A B C : Type 0} (f : A → B) (g : B → C) (t : Bool) (a : A) → choose t (g (f a)) ≡ option_map g (option_map f (choose t a))
option_map-chosen f g true a = refl
option_map-chosen f g false a = refl

-- A growth for each machine, or none.
growths_read : (machines d column : ℕ) (ws : List (List ℕ))
    → result_ok (read_from (record { words = []; make = λ vs. Pass d None } ∷ record { words = replicate machines is_number_text; make = λ vs. Pass d (Some (map capped_long vs)) } ∷ []) column ws)
    ≡ option_map (λ g. Pass d g) (growths_in machines ws)
growths_read machines d column [] = refl
growths_read machines d column (w ∷ ws) =
    words_alike is_number_text machines (λ vs. Pass d (Some (map capped_long vs))) column (w ∷ ws)
    ∙ option_map-chosen (λ g. Some g) (λ g. Pass d g) (eqb (length (w ∷ ws)) machines && list_all is_number_text (w ∷ ws)) (map capped_long (w ∷ ws))

-- ---- the two verbs

pass_behind : (machines sector : ℕ) → forms_behind (codes "pass") (early_forms machines sector)
    ≡ record { words = is_number_text ∷ []; make = λ ws. Pass (capped_long (word_at ws 0)) None }
    ∷ record { words = is_number_text ∷ replicate machines is_number_text; make = λ ws. Pass (capped_long (word_at ws 0)) (Some (map capped_long (drop 1 ws))) } ∷ []
unfolding event_forms
pass_behind machines sector = refl

pass_from_verb : (machines sector : ℕ) (line : List ℕ) → next_passes (exactly (codes "pass")) (unread 32 line) ≡ true
    → result_ok (pass_read machines (past_word (unread 32 line))) ≡ made_by (early_forms machines sector) (words_of line)
pass_from_verb machines sector line verb =
    let u : Unread = past_word (unread 32 line) in
    let d : ℕ = capped_long (word_at u.words 0) in
    let next : ℕ → Result Event ℕ = λ d. ok_or (growths_in machines (past_word u).words) 0 >>= λ g. Ok (Pass d g) in
    sym (made_as_read (early_forms machines sector) line
    ∙ ap result_ok (read_by-verbs (early_forms machines sector) _ (unread 32 line) (codes "pass") verb (pass_behind machines sector))
    ∙ part_of_two number_part [] (replicate machines is_number_text) (λ ws. Pass (capped_long (word_at ws 0)) None)
    (λ ws. Pass (capped_long (word_at ws 0)) (Some (map capped_long (drop 1 ws)))) next u.column u.words
    (growths_read machines d (past_word u).column (past_word u).words ∙ made_of_value (λ g. Pass d g) (growths_in machines (past_word u).words)))

tear_behind : (machines sector : ℕ) → forms_behind (codes "tear") (early_forms machines sector)
    ≡ record {
      words = machine_part.passes ∷ number_part.passes ∷ (kept_part sector).passes ∷ [];
      make = λ ws. Tear (machine_part.value (word_at ws 0)) (number_part.value (word_at ws 1)) ((kept_part sector).value (word_at ws 2)) [];
    } ∷ record {
      words = machine_part.passes ∷ number_part.passes ∷ (kept_part sector).passes ∷ is_hex_word 2 (2 * sector) ∷ [];
      make = λ ws. Tear (machine_part.value (word_at ws 0)) (number_part.value (word_at ws 1)) ((kept_part sector).value (word_at ws 2)) (hex_bytes (word_at ws 3));
    } ∷ []
unfolding event_forms
tear_behind machines sector = refl

tear_from_verb : (machines sector : ℕ) (line : List ℕ) → next_passes (exactly (codes "tear")) (unread 32 line) ≡ true
    → result_ok (tear_read sector (past_word (unread 32 line))) ≡ made_by (early_forms machines sector) (words_of line)
tear_from_verb machines sector line verb =
    let u : Unread = past_word (unread 32 line) in
    let v : Unread = past_word u in
    let w : Unread = past_word v in
    let x : Unread = past_word w in
    let m : ℕ = machine_part.value (word_at u.words 0) in
    let c : ℕ = number_part.value (word_at v.words 0) in
    let k : ℕ = (kept_part sector).value (word_at w.words 0) in
    let hex : List ℕ → Bool = is_hex_word 2 (2 * sector) in
    let last : ℕ → ℕ → ℕ → Result Event ℕ = λ m c k. ok_or (bytes_in sector x.words) 0 >>= λ bytes. Ok (Tear m c k bytes) in
    let third : ℕ → ℕ → Result Event ℕ = λ m c. next_part (kept_part sector) w >>= last m c in
    let second : ℕ → Result Event ℕ = λ m. next_part number_part v >>= third m in
    sym (made_as_read (early_forms machines sector) line
    ∙ ap result_ok (read_by-verbs (early_forms machines sector) _ (unread 32 line) (codes "tear") verb (tear_behind machines sector))
    ∙ part_of_two machine_part (number_part.passes ∷ (kept_part sector).passes ∷ []) (number_part.passes ∷ (kept_part sector).passes ∷ hex ∷ [])
    (λ ws. Tear (machine_part.value (word_at ws 0)) (number_part.value (word_at ws 1)) ((kept_part sector).value (word_at ws 2)) [])
    (λ ws. Tear (machine_part.value (word_at ws 0)) (number_part.value (word_at ws 1)) ((kept_part sector).value (word_at ws 2)) (hex_bytes (word_at ws 3)))
    second u.column u.words
    (part_of_two number_part ((kept_part sector).passes ∷ []) ((kept_part sector).passes ∷ hex ∷ [])
    (λ ws. Tear m (number_part.value (word_at ws 0)) ((kept_part sector).value (word_at ws 1)) [])
    (λ ws. Tear m (number_part.value (word_at ws 0)) ((kept_part sector).value (word_at ws 1)) (hex_bytes (word_at ws 2)))
    (third m) v.column v.words
    (part_of_two (kept_part sector) [] (hex ∷ [])
    (λ ws. Tear m c ((kept_part sector).value (word_at ws 0)) [])
    (λ ws. Tear m c ((kept_part sector).value (word_at ws 0)) (hex_bytes (word_at ws 1)))
    (last m c) w.column w.words
    (one_more_word hex hex_bytes [] (λ bytes. Tear m c k bytes) x.column x.words ∙ made_of_value (λ bytes. Tear m c k bytes) (bytes_in sector x.words)))))

-- Where the first word is the verb.
pub pass_made : (machines sector : ℕ) (line w : List ℕ) (u : Unread) → Some w ≡ first_of_list (words_of line) → u ≡ past_word (unread 32 line)
    → exactly (codes "pass") w ≡ true → result_ok (pass_read machines u) ≡ made_by (early_forms machines sector) (words_of line)
pass_made machines sector line w u first behind_it verb =
    ap (λ u. result_ok (pass_read machines u)) behind_it
    ∙ pass_from_verb machines sector line (ap (some_is (exactly (codes "pass"))) (sym first) ∙ verb)

pub tear_made : (machines sector : ℕ) (line w : List ℕ) (u : Unread) → Some w ≡ first_of_list (words_of line) → u ≡ past_word (unread 32 line)
    → exactly (codes "tear") w ≡ true → tear_in sector u ≡ made_by (early_forms machines sector) (words_of line)
unfolding pair_in
tear_made machines sector line w u first behind_it verb =
    two_and_two (next_part machine_part u) (next_part number_part (past_word u)) (next_part (kept_part sector) (past_word (past_word u)))
    (ok_or (bytes_in sector (past_word (past_word (past_word u))).words) 0) (λ m c k bytes. Tear m c k bytes)
    ∙ ap (λ u. result_ok (tear_read sector u)) behind_it
    ∙ tear_from_verb machines sector line (ap (some_is (exactly (codes "tear"))) (sym first) ∙ verb)

-- ---- the halves

-- The forms of one list, then those of another.
made_by-append : {A : Type 0} (fs gs : List (Form A)) (ws : List (List ℕ)) → made_by (fs ++ gs) ws ≡ option_or (made_by fs ws) (made_by gs ws)
made_by-append [] gs ws = refl
made_by-append {A} (f ∷ fs) gs ws =
    elim (fits_whole f.words ws) as (λ t. option_map (λ (f : Form A). f.make ws) (cond t (Some f) (find (λ f. fits_whole f.words ws) (fs ++ gs)))
    ≡ option_or (option_map (λ (f : Form A). f.make ws) (cond t (Some f) (find (λ f. fits_whole f.words ws) fs))) (made_by gs ws)) [
      | true ↦ refl
      | false ↦ made_by-append fs gs ws
    ]

made_by_halves : (machines sector : ℕ) (ws : List (List ℕ))
    → made_by (event_forms machines sector) ws ≡ option_or (made_by (early_forms machines sector) ws) (made_by (late_forms machines sector) ws)
made_by_halves machines sector ws =
    ap (λ fs. made_by fs ws) (sym (take-append-drop 10 (event_forms machines sector))) ∙ made_by-append (early_forms machines sector) (late_forms machines sector) ws

-- What the first half makes of a line, or the other where it makes nothing.
pub early_made : (machines sector : ℕ) (line : List ℕ) (e : Event) (o : Option Event) → o ≡ made_by (early_forms machines sector) (words_of line) → o ≡ Some e
    → Some e ≡ made_by (event_forms machines sector) (words_of line)
early_made machines sector line e o made is =
    let here : made_by (early_forms machines sector) (words_of line) ≡ Some e = sym made ∙ is in
    sym (made_by_halves machines sector (words_of line) ∙ ap (λ x. option_or x (made_by (late_forms machines sector) (words_of line))) here)

pub late_made : (machines sector : ℕ) (line : List ℕ) (o late : Option Event) → o ≡ made_by (early_forms machines sector) (words_of line) → o ≡ None
    → late ≡ made_by (late_forms machines sector) (words_of line) → late ≡ made_by (event_forms machines sector) (words_of line)
late_made machines sector line o late made is made_late =
    let none : made_by (early_forms machines sector) (words_of line) ≡ None = sym made ∙ is in
    made_late ∙ sym (made_by_halves machines sector (words_of line) ∙ ap (λ x. option_or x (made_by (late_forms machines sector) (words_of line))) none)

-- ---- commands

-- Where the first word is `command`, no form goes on.
none_behind_command : (machines sector : ℕ) → forms_behind (codes "command") (event_forms machines sector) ≡ []
unfolding event_forms
none_behind_command machines sector = refl

first_word : (v : List ℕ) (ws : List (List ℕ)) → some_is (exactly v) (first_of_list ws) ≡ true → ws ≡ v ∷ drop 1 ws
first_word v [] h = absurd cc
first_word v (w ∷ ws) h = ap (λ x. x ∷ ws) (sym ((bytes_eq-Decides v w).0 h))

or_none : {A : Type 0} (o : Option A) → o ≡ option_or o None
or_none None = refl
or_none (Some a) = refl

pub command_made : (machines sector : ℕ) (line : List ℕ) → next_passes (exactly (codes "command")) (unread 32 line) ≡ true
    → command_event (codes "command" ∷ (past_word (unread 32 line)).words) ≡ event_in whole_language machines sector line
command_made machines sector line verb =
    let fs : List (Form Event) = event_forms machines sector in
    let none : made_by fs (words_of line) ≡ None = made_as_read fs line
    ∙ ap result_ok (read_by-verbs fs [] (unread 32 line) (codes "command") verb (none_behind_command machines sector)) in
    ap command_event (sym (first_word (codes "command") (words_of line) verb)) ∙ or_none (command_event (words_of line))
    ∙ ap (λ o. option_or (command_event (words_of line)) (checked_event sector o)) (sym none)
