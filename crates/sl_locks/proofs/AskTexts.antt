-- The texts of asks, as they are written from left to right.
use Rattle.sl_locks.specs.Asks.{ask_text, lock_word, process_text, space_word}
use Rattle.sl_locks.specs.declared.ask.Ask.TheVariants.{Acquire as AskAcquire, Join, Leave, ReadValue, Release as AskRelease, WriteValue}
use Rattle.sl_run.specs.LockNames.{Lock, group_lockspace, group_path}
use Rattle.sl_run.specs.Lvm.{lock_process}
use Rattle.sl_trace.specs.Traces.{is_shared}
use Rattle.sl_trace.specs.declared.effects.Mode.TheVariants.{Shared}
use Rattle.sl_trace.specs.declared.effects.Mode.{Mode}
use Rattle.sl_text.specs.Numbers.{hex_text}
use Rattle.std.proofs.Common.{List, [], ap, decimal, false, refl, sym, true, ℕ, ◌*◌, ◌++◌, ◌≡◌, ◌∙◌, ◌∷◌}
use Rattle.std.proofs.lemmas.List.{append_assoc}
use Rattle.std.specs.Prelude.{Err, Ok, OnOk, Result, codes}

pub join_text : (area : ℕ) (group : List ℕ) (id : ℕ) → ask_text area (Join group id) ≡ codes "add_lockspace -s " ++ space_word group id
join_text area group id = refl

pub leave_text : (area : ℕ) (group : List ℕ) (id : ℕ) → ask_text area (Leave group id) ≡ codes "rem_lockspace -s " ++ space_word group id
leave_text area group id = refl

pub acquire_text : (area : ℕ) (l : Lock) (mode : Mode) → ask_text area (AskAcquire l mode) ≡ codes "acquire -r " ++ lock_word area l (is_shared mode) ++ process_text
acquire_text area l mode = refl

pub release_text : (area : ℕ) (l : Lock) → ask_text area (AskRelease l) ≡ codes "release -r " ++ lock_word area l false ++ process_text
release_text area l = refl

pub read_text : (area : ℕ) (l : Lock) → ask_text area (ReadValue l) ≡ codes "get_lvb -r " ++ lock_word area l false ++ process_text
read_text area l = refl

-- The one byte that a value is set to.
one_byte : hex_text (1 ∷ []) ≡ codes "01"
one_byte = refl

write_words : (w p : List ℕ) → (w ++ 32 ∷ (codes "-p" ++ 32 ∷ (p ++ 32 ∷ (codes "-d" ++ 32 ∷ hex_text (1 ∷ []))))) ≡ w ++ ((codes " -p " ++ p) ++ codes " -d 01")
write_words w p = ap (λ digits. w ++ 32 ∷ (codes "-p" ++ 32 ∷ (p ++ 32 ∷ (codes "-d" ++ 32 ∷ digits)))) one_byte

pub write_text : (area : ℕ) (l : Lock) → ask_text area (WriteValue l) ≡ codes "set_lvb -r " ++ lock_word area l false ++ process_text ++ codes " -d 01"
write_text area l =
    ap (λ t. codes "set_lvb -r " ++ t) (write_words (lock_word area l false) (decimal lock_process)
    ∙ sym (append_assoc (lock_word area l false) process_text (codes " -d 01")))

-- ---- texts that are written one behind another

pub two : (old a new x y : List ℕ) → a ≡ old ++ x → new ≡ a ++ y → new ≡ old ++ (x ++ y)
two old a new x y first then = then ∙ ap (λ t. t ++ y) first ∙ append_assoc old x y

pub three : (old a b new x y z : List ℕ) → a ≡ old ++ x → b ≡ a ++ y → new ≡ b ++ z → new ≡ old ++ (x ++ (y ++ z))
three old a b new x y z first second then = two old b new (x ++ y) z (two old a b x y first second) then ∙ ap (λ t. old ++ t) (append_assoc x y z)

-- The word of a resource, part behind part.
pub resource_written : (group name n : List ℕ) (offset : ℕ) (old a b new : List ℕ) → n ≡ name → a ≡ old ++ group_lockspace group → b ≡ a ++ 58 ∷ n
    → new ≡ b ++ 58 ∷ (group_path group ++ 58 ∷ decimal offset)
    → new ≡ old ++ (group_lockspace group ++ 58 ∷ (name ++ 58 ∷ (group_path group ++ 58 ∷ decimal offset)))
resource_written group name n offset old a b new is first second then =
    three old a b new (group_lockspace group) (58 ∷ name) (58 ∷ (group_path group ++ 58 ∷ decimal offset)) first (second ∙ ap (λ t. a ++ 58 ∷ t) is) then

-- The word of a group's lockspace, part behind part.
pub space_written : (group : List ℕ) (id n : ℕ) (old a b new : List ℕ) → n ≡ id → a ≡ old ++ group_lockspace group → b ≡ a ++ 58 ∷ decimal n
    → new ≡ b ++ 58 ∷ (group_path group ++ 58 ∷ decimal 0) → new ≡ old ++ space_word group id
space_written group id n old a b new is first second then =
    three old a b new (group_lockspace group) (58 ∷ decimal id) (58 ∷ (group_path group ++ 58 ∷ decimal 0)) first
    (second ∙ ap (λ k. a ++ 58 ∷ decimal k) is) then

-- The mark of the shared mode behind a word of four parts.
marked : (a b c d mark : List ℕ) → a ++ 58 ∷ (b ++ 58 ∷ (c ++ 58 ∷ (d ++ mark))) ≡ (a ++ 58 ∷ (b ++ 58 ∷ (c ++ 58 ∷ d))) ++ mark
marked a b c d mark =
    ap (λ t. a ++ 58 ∷ (b ++ 58 ∷ t)) (sym (append_assoc c (58 ∷ d) mark)) ∙ ap (λ t. a ++ 58 ∷ t) (sym (append_assoc b (58 ∷ (c ++ 58 ∷ d)) mark))
    ∙ sym (append_assoc a (58 ∷ (b ++ 58 ∷ (c ++ 58 ∷ d))) mark)

pub shared_word : (area : ℕ) (l : Lock) → lock_word area l true ≡ lock_word area l false ++ codes ":SH"
shared_word area l = marked (group_lockspace l.group) l.name (group_path l.group) (decimal (l.number * area)) (codes ":SH")

-- .. written behind it.
pub marked_behind : {E : Type 0} (area : ℕ) (l : Lock) (mode : Mode) (old a new : List ℕ) (r : Result (Unit {0}) E) → a ≡ old ++ lock_word area l false → mode ≡ Shared
    → OnOk r (new ≡ a ++ codes ":SH") → OnOk r (new ≡ old ++ lock_word area l (is_shared mode))
marked_behind area l mode old a new (Err e) word shared then = tt
marked_behind area l mode old a new (Ok done) word shared then =
    two old a new (lock_word area l false) (codes ":SH") word then ∙ ap (λ t. old ++ t) (sym (shared_word area l))
    ∙ ap (λ m. old ++ lock_word area l (is_shared m)) (sym shared)

pub ruleset texts = (join_text, leave_text, acquire_text, release_text, read_text, write_text)
