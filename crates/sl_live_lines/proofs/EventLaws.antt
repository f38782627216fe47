-- Lines of events that are written one behind another.
use Rattle.sl_command.specs.OutputLines.{class_text, line_text}
use Rattle.sl_live_lines.specs.EventTexts.{Telling, event_words, exit_words, exited, expires_between, recovery_text, recovery_words, run_out}
use Rattle.sl_trace.specs.EffectTexts.{end_words, sent_words}
use Rattle.sl_trace.specs.WatchdogConnections.{Connection}
use Rattle.sl_trace.specs.declared.effects.Entry.{Entry}
use Rattle.std.proofs.Common.{List, Option, [], ap, ap₂, if◌then◌else◌, map, refl, slice_get, suc, sym, take, zero, ℕ, ◌++◌, ◌+◌, ◌≡◌, ◌∙◌, ◌∷◌}
use Rattle.std.proofs.Math.Numerals.{suc-eq-add-one}
use Rattle.std.proofs.lemmas.List.Concat.{flat_map-append}
use Rattle.std.proofs.lemmas.List.{append_assoc}
use Rattle.std.specs.Option.{option_to_list}
use Rattle.std.specs.Prelude.{Bool, false, filter, flat_map, true}

-- The lines of the recoveries are those of the connections that expire.
recovered_one : (m : ℕ) (c : Connection) (rest : List Connection) (b : Bool)
    → (if b then line_text m (recovery_words c) else []) ++ class_text m recovery_words rest ≡ class_text m recovery_words (if b then c ∷ rest else rest)
recovered_one m c rest true = refl
recovered_one m c rest false = refl

recovered : (m before now : ℕ) (cs : List Connection) → flat_map (recovery_text m before now) cs ≡ class_text m recovery_words (filter (expires_between before now) cs)
recovered m before now [] = refl
recovered m before now (c ∷ cs) =
    ap (λ bs. recovery_text m before now c ++ bs) (recovered m before now cs)
    ∙ recovered_one m c (filter (expires_between before now) cs) (expires_between before now c)

taken : {A : Type 0} (xs : List A) (i : ℕ) → take (suc i) xs ≡ take i xs ++ option_to_list (slice_get xs i)
taken [] zero = refl
taken [] (suc i) = refl
taken (x ∷ xs) zero = refl
taken (x ∷ xs) (suc i) = ap (λ ys. x ∷ ys) (taken xs i)

-- What is written of one place more.
pub one_told : {A : Type 0} (f : A → List ℕ) (xs : List A) (i : ℕ) (o : Option A) (first was now : List ℕ) → o ≡ slice_get xs i
    → was ≡ first ++ flat_map f (take i xs) → now ≡ was ++ flat_map f (option_to_list o) → now ≡ first ++ flat_map f (take (i + 1) xs)
one_told f xs i o first was now is before after =
    after ∙ ap (λ bs. bs ++ flat_map f (option_to_list o)) before
    ∙ ap (λ p. (first ++ flat_map f (take i xs)) ++ flat_map f (option_to_list p)) is
    ∙ append_assoc first (flat_map f (take i xs)) (flat_map f (option_to_list (slice_get xs i)))
    ∙ ap (λ bs. first ++ bs)
    (sym (flat_map-append f (take i xs) (option_to_list (slice_get xs i))) ∙ ap (flat_map f) (sym (taken xs i) ∙ ap (λ n. take n xs) (suc-eq-add-one i)))

-- The lines of one class.
class_lines : {A : Type 0} (m : ℕ) (words : A → List (List ℕ)) (xs : List A) → flat_map (line_text m) (map words xs) ≡ class_text m words xs
class_lines m words [] = refl
class_lines m words (x ∷ xs) = ap (λ bs. line_text m (words x) ++ bs) (class_lines m words xs)

-- The lines of an entry's events, class by class.
by_class : (m : ℕ) (t : Telling) (e : Entry)
    → flat_map (line_text m) (event_words t e)
    ≡ class_text m recovery_words (run_out t e) ++ class_text m exit_words (option_to_list (exited e.input)) ++ class_text m (λ x. end_words x) e.effects.ends
    ++ class_text m (λ x. sent_words x) e.effects.signals
by_class m t e =
    let recoveries : List (List (List ℕ)) = map recovery_words (run_out t e) in
    let exits : List (List (List ℕ)) = map exit_words (option_to_list (exited e.input)) in
    let ends : List (List (List ℕ)) = map (λ x. end_words x) e.effects.ends in
    let signals : List (List (List ℕ)) = map (λ x. sent_words x) e.effects.signals in
    flat_map-append (line_text m) (recoveries ++ exits ++ ends) signals
    ∙ ap₂ (λ xs ys. xs ++ ys)
    (flat_map-append (line_text m) (recoveries ++ exits) ends
    ∙ ap₂ (λ xs ys. xs ++ ys)
    (flat_map-append (line_text m) recoveries exits
    ∙ ap₂ (λ xs ys. xs ++ ys) (class_lines m recovery_words (run_out t e)) (class_lines m exit_words (option_to_list (exited e.input))))
    (class_lines m (λ x. end_words x) e.effects.ends))
    (class_lines m (λ x. sent_words x) e.effects.signals)

-- Four texts, one behind another.
four_behind : (first a b c d : List ℕ) → first ++ a ++ b ++ c ++ d ≡ first ++ (a ++ b ++ c ++ d)
four_behind first a b c d =
    ap (λ bs. bs ++ c ++ d) (append_assoc first a b) ∙ ap (λ bs. bs ++ d) (append_assoc first (a ++ b) c) ∙ append_assoc first (a ++ b ++ c) d

-- Written class by class, they are all written.
pub events_written : (m : ℕ) (t : Telling) (e : Entry) (first one two three whole : List ℕ) → one ≡ first ++ flat_map (recovery_text m t.reading e.reading) t.connections
    → two ≡ one ++ class_text m exit_words (option_to_list (exited e.input)) → three ≡ two ++ class_text m (λ x. end_words x) e.effects.ends
    → whole ≡ three ++ class_text m (λ x. sent_words x) e.effects.signals → whole ≡ first ++ flat_map (line_text m) (event_words t e)
events_written m t e first one two three whole recoveries exits ends signals =
    let a : List ℕ = class_text m recovery_words (run_out t e) in
    let b : List ℕ = class_text m exit_words (option_to_list (exited e.input)) in
    let c : List ℕ = class_text m (λ x. end_words x) e.effects.ends in
    let d : List ℕ = class_text m (λ x. sent_words x) e.effects.signals in
    let recovery : one ≡ first ++ a = recoveries ∙ ap (λ bs. first ++ bs) (recovered m t.reading e.reading t.connections) in
    let exit : two ≡ first ++ a ++ b = exits ∙ ap (λ bs. bs ++ b) recovery in
    let end : three ≡ first ++ a ++ b ++ c = ends ∙ ap (λ bs. bs ++ c) exit in
    signals ∙ ap (λ bs. bs ++ d) end ∙ four_behind first a b c d ∙ ap (λ bs. first ++ bs) (sym (by_class m t e))
