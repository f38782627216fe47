-- What is read of a command's text is a command that it may name, and the text is that command's.
use Rattle.sl_area.specs.AreaSizes.{Layout}
use Rattle.sl_command.proofs.PartTexts.{asked_read, lockspace_read, number_read, range_small, resource_read, shared_read}
use Rattle.sl_command.proofs.VerbLaws.{clearing_lver}
use Rattle.sl_text.proofs.HexLaws.{IsBytes-hex_bytes, hex_text-hex_bytes, hex_word_size, length-hex_bytes}
use Rattle.sl_text.specs.Forms.{Form, coloned, exactly, fits_whole, fitting, made_by, word_at}
use Rattle.sl_text.specs.Names.{is_path}
use Rattle.sl_text.specs.Numbers.{IsBytes, hex_bytes, hex_text, is_hex_word, is_number_that, number_of}
use Rattle.sl_trace.specs.CommandForms.{IsCommand, IsLockspaceArg, IsProcess, IsResourceArg, IsValueArg, acquire_form, asked_of_word, command_words, forms, is_asked_word, is_lockspace_word, is_process_word, is_resource_word, is_shared_word, lockspace_form, lockspace_of_word, lockspace_word, moded_word, option_words, resource_of_word, resource_parts}
use Rattle.sl_trace.specs.declared.command.Command.TheVariants.{Acquire, AddLockspace, Convert, GetLvb, HostStatus, InqLockspace, Release, ReleaseOrphan, RemLockspace, Request, RunProgram, SetKillpath, SetLvb, Status, TakeOver}
use Rattle.sl_trace.specs.declared.command.Command.{Command}
use Rattle.sl_trace.specs.declared.command.LockspaceArg.{LockspaceArg}
use Rattle.sl_trace.specs.declared.command.ResourceArg.{ResourceArg}
use Rattle.sl_words.proofs.CaseLaws.{some_value}
use Rattle.sl_words.proofs.WordLaws.{and_true}
use Rattle.std.proofs.Common.{Bool, List, Some, [], ap, arith, cond, eqb, false, leb, length, lit<, lit≤, ltb, map, refl, subst, suc, sym, true, ℕ, ◌&&◌, ◌++◌, ◌+◌, ◌-◌, ◌*◌, ◌/◌, ◌<◌, ◌^◌, ◌≡◌, ◌∙◌, ◌∷◌, ◌≤◌}
use Rattle.std.proofs.lemmas.Bool.Decides.{nat_tests}
use Rattle.std.proofs.lemmas.Bool.{and_from, leb-true, lt-ltb}
use Rattle.std.proofs.lemmas.Fmt.{decimal_digit}
use Rattle.std.proofs.lemmas.Slice.Eq.{bytes_eq-Decides}
use Rattle.std.specs.Int.{is_in_range}
use Rattle.std.specs.List.{find, list_all}
use Rattle.std.specs.Option.{option_map}
use Rattle.std.specs.Prelude.{codes, decimal, if◌then◌else◌, ◌==◌}

-- ---- words that fit a form

-- The first test and the others.
fits_parts : (t : Bool) (tests fit words : ℕ) → (eqb (suc tests) (suc words) && eqb (if t then 1 + fit else 0) (suc words)) ≡ true → (t ≡ true) × ((eqb tests words && eqb fit words) ≡ true)
fits_parts true tests fit words h = (refl, grind (arith, nat_tests))
fits_parts false tests fit words h = absurd (grind (arith, nat_tests))

-- A word that the first test takes, and words behind it that the others take.
some_word : (p : List ℕ → Bool) (ps : List (List ℕ → Bool)) (P : List (List ℕ) → Type 0) → ((w : List ℕ) (ws : List (List ℕ)) → p w ≡ true → fits_whole ps ws ≡ true → P (w ∷ ws))
    → (ws : List (List ℕ)) → fits_whole (p ∷ ps) ws ≡ true → P ws
some_word p ps P each [] h = absurd (grind (arith, nat_tests))
some_word p ps P each (w ∷ ws) h = let parts = fits_parts (p w) (length ps) (fitting ps ws) (length ws) h in each w ws parts.0 parts.1

no_word : (P : List (List ℕ) → Type 0) → P [] → (ws : List (List ℕ)) → fits_whole [] ws ≡ true → P ws
no_word P none [] h = none
no_word P none (w ∷ ws) h = absurd (grind (arith, nat_tests))

-- Three words, five and seven.
three_words : (p q r : List ℕ → Bool) (P : List (List ℕ) → Type 0) → ((a b c : List ℕ) → p a ≡ true → q b ≡ true → r c ≡ true → P (a ∷ b ∷ c ∷ []))
    → (ws : List (List ℕ)) → fits_whole (p ∷ q ∷ r ∷ []) ws ≡ true → P ws
three_words p q r P each =
    some_word p (q ∷ r ∷ []) P (λ a vs ha. some_word q (r ∷ []) (λ us. P (a ∷ us)) (λ b bs hb. some_word r [] (λ us. P (a ∷ b ∷ us)) (λ c cs hc.
    no_word (λ us. P (a ∷ b ∷ c ∷ us)) (each a b c ha hb hc) cs) bs) vs)

five_words : (p q r s t : List ℕ → Bool) (P : List (List ℕ) → Type 0)
    → ((a b c d e : List ℕ) → p a ≡ true → q b ≡ true → r c ≡ true → s d ≡ true → t e ≡ true → P (a ∷ b ∷ c ∷ d ∷ e ∷ []))
    → (ws : List (List ℕ)) → fits_whole (p ∷ q ∷ r ∷ s ∷ t ∷ []) ws ≡ true → P ws
five_words p q r s t P each =
    some_word p (q ∷ r ∷ s ∷ t ∷ []) P (λ a vs ha. some_word q (r ∷ s ∷ t ∷ []) (λ us. P (a ∷ us)) (λ b bs hb.
    three_words r s t (λ us. P (a ∷ b ∷ us)) (λ c d e hc hd he. each a b c d e ha hb hc hd he) bs) vs)

seven_words : (p q r s t x y : List ℕ → Bool) (P : List (List ℕ) → Type 0)
    → ((a b c d e f h : List ℕ) → p a ≡ true → q b ≡ true → r c ≡ true → s d ≡ true → t e ≡ true → x f ≡ true → y h ≡ true → P (a ∷ b ∷ c ∷ d ∷ e ∷ f ∷ h ∷ []))
    → (ws : List (List ℕ)) → fits_whole (p ∷ q ∷ r ∷ s ∷ t ∷ x ∷ y ∷ []) ws ≡ true → P ws
seven_words p q r s t x y P each =
    some_word p (q ∷ r ∷ s ∷ t ∷ x ∷ y ∷ []) P (λ a vs ha. some_word q (r ∷ s ∷ t ∷ x ∷ y ∷ []) (λ us. P (a ∷ us)) (λ b bs hb.
    five_words r s t x y (λ us. P (a ∷ b ∷ us)) (λ c d e f h hc hd he hf hh. each a b c d e f h ha hb hc hd he hf hh) bs) vs)

-- The word is this text.
word_is : (text w : List ℕ) → exactly text w ≡ true → text ≡ w
word_is text w h = (bytes_eq-Decides text w).0 h

-- ---- forms that make what their words say

-- What the form makes of words that fit it is a command that it may name, and the words are that command's.
abbrev Says : Layout → (List (List ℕ) → Command) → List (List ℕ) → Type 0
Says g make ws = IsCommand g (make ws) × (command_words (make ws) ≡ ws)

abbrev Agrees : Layout → Form Command → Type 0
Agrees g f = (ws : List (List ℕ)) → fits_whole f.words ws ≡ true → Says g f.make ws

three_same : (a b c x y z : List ℕ) → a ≡ x → b ≡ y → c ≡ z → (a ∷ b ∷ c ∷ []) ≡ (x ∷ y ∷ z ∷ [])
three_same a b c x y z e f g = cc

five_same : (a b c d e v w x y z : List ℕ) → a ≡ v → b ≡ w → c ≡ x → d ≡ y → e ≡ z → (a ∷ b ∷ c ∷ d ∷ e ∷ []) ≡ (v ∷ w ∷ x ∷ y ∷ z ∷ [])
five_same a b c d e v w x y z i j k l m = cc

-- A lockspace's form.
lockspace_agrees : (g : Layout) (verb : List ℕ) (make : LockspaceArg → Command) → g.hosts < 2 ^ 64 → ((a : LockspaceArg) → IsLockspaceArg g a → IsCommand g (make a))
    → ((a : LockspaceArg) → command_words (make a) ≡ verb ∷ codes "-s" ∷ lockspace_word a ∷ []) → Agrees g (lockspace_form g verb make)
lockspace_agrees g verb make few may says =
    three_words (exactly verb) (exactly (codes "-s")) (is_lockspace_word g) (Says g (λ ws. make (lockspace_of_word (word_at ws 2)))) (λ a b c ha hb hc. let read = lockspace_read g c few hc in (may _ read.0, says _ ∙ three_same _ _ _ _ _ _ (word_is verb a ha) (word_is (codes "-s") b hb) read.1))

-- The form of a resource and one thing more.
resource_agrees : (g : Layout) (verb flag : List ℕ) (q s : List ℕ → Bool) (make : List (List ℕ) → Command)
    → ((a b c d e : List ℕ) → q c ≡ true → s e ≡ true
    → IsCommand g (make (a ∷ b ∷ c ∷ d ∷ e ∷ [])) × (command_words (make (a ∷ b ∷ c ∷ d ∷ e ∷ [])) ≡ verb ∷ codes "-r" ∷ c ∷ flag ∷ e ∷ []))
    → Agrees g (record { words = exactly verb ∷ exactly (codes "-r") ∷ q ∷ exactly flag ∷ s ∷ []; make = make })
resource_agrees g verb flag q s make each =
    five_words (exactly verb) (exactly (codes "-r")) q (exactly flag) s (Says g make) (λ a b c d e ha hb hc hd he. let made = each a b c d e hc he in
    (made.0, made.1 ∙ five_same _ _ _ _ _ _ _ _ _ _ (word_is verb a ha) (word_is (codes "-r") b hb) refl (word_is flag d hd) refl))

-- A process.
process_read : (w : List ℕ) → is_process_word w ≡ true → IsProcess (number_of w) × (decimal (number_of w) ≡ w)
process_read w h = number_read (is_in_range 1 2000000) w h (range_small 1 2000000 (number_of w) (lit< tt) (and_true _ _ h).1)

-- One word more.
cons_same : (t w : List ℕ) (ts ws : List (List ℕ)) → t ≡ w → ts ≡ ws → t ∷ ts ≡ w ∷ ws
cons_same t w ts ws e f = cc

-- Words that are these texts one by one.
exact_words : (texts ws : List (List ℕ)) → fits_whole (map exactly texts) ws ≡ true → texts ≡ ws
exact_words [] = no_word (λ ws. [] ≡ ws) refl
exact_words (t ∷ ts) = some_word (exactly t) (map exactly ts) (λ ws. t ∷ ts ≡ ws) (λ w ws h k. cons_same t w ts ws (word_is t w h) (exact_words ts ws k))

-- The form of an acquire with these options: a resource that is meant in one mode, and a process.
six_same : (a b c d e v w x y z : List ℕ) (ts us : List (List ℕ)) → a ≡ v → b ≡ w → c ≡ x → d ≡ y → e ≡ z → ts ≡ us → (a ∷ b ∷ c ∷ d ∷ e ∷ ts) ≡ (v ∷ w ∷ x ∷ y ∷ z ∷ us)
six_same a b c d e v w x y z ts us i j k l m n = cc

acquire_agrees : (g : Layout) (q : List ℕ → Bool) (shared : Bool) (options : List (List ℕ)) (make : ResourceArg → ℕ → Command)
    → ((w : List ℕ) → q w ≡ true → IsResourceArg g (resource_of_word w) × (moded_word (resource_of_word w) shared ≡ w))
    → ((r : ResourceArg) (p : ℕ) → IsResourceArg g r → IsProcess p → IsCommand g (make r p))
    → ((r : ResourceArg) (p : ℕ) → command_words (make r p) ≡ codes "acquire" ∷ codes "-r" ∷ moded_word r shared ∷ codes "-p" ∷ decimal p ∷ options)
    → Agrees g (acquire_form q (map exactly options) make)
acquire_agrees g q shared options make reads may says =
    let tests : List (List ℕ → Bool) = map exactly options in
    let whole : List (List ℕ) → Command = (λ ws. make (resource_of_word (word_at ws 2)) (number_of (word_at ws 4))) in
    some_word (exactly (codes "acquire")) (exactly (codes "-r") ∷ q ∷ exactly (codes "-p") ∷ is_process_word ∷ tests) (Says g whole) (λ a rest ha.
    some_word (exactly (codes "-r")) (q ∷ exactly (codes "-p") ∷ is_process_word ∷ tests) (λ ws. Says g whole (a ∷ ws)) (λ b bs hb.
    some_word q (exactly (codes "-p") ∷ is_process_word ∷ tests) (λ ws. Says g whole (a ∷ b ∷ ws)) (λ c cs hc.
    some_word (exactly (codes "-p")) (is_process_word ∷ tests) (λ ws. Says g whole (a ∷ b ∷ c ∷ ws)) (λ d ds hd.
    some_word is_process_word tests (λ ws. Says g whole (a ∷ b ∷ c ∷ d ∷ ws)) (λ e es he hes.
    let resource = reads c hc in
    let process = process_read e he in (
      may _ _ resource.0 process.0,
      says _ _ ∙ six_same _ _ _ _ _ _ _ _ _ _ _ _ (word_is (codes "acquire") a ha) (word_is (codes "-r") b hb) resource.1 (word_is (codes "-p") d hd) process.1 (exact_words options es hes),
    )) ds) cs) bs) rest)

-- A value.
bytes_small : (bs : List ℕ) → IsBytes bs → list_all (λ b. ltb b 256) bs ≡ true
bytes_small [] h = refl
bytes_small (b ∷ bs) h = and_from _ _ (lt-ltb b 256 (h 0)) (bytes_small bs (λ i. h (suc i)))

value_long : (n k : ℕ) → is_in_range 2 512 n ≡ true → n ≡ 2 * k → is_in_range 1 256 k ≡ true
value_long n k h e = grind (arith, nat_tests)

value_read : (w : List ℕ) → is_hex_word 2 512 w ≡ true → IsValueArg (hex_bytes w) × (hex_text (hex_bytes w) ≡ w)
value_read w h =
    let size = hex_word_size 2 512 w h in
    let range = (and_true (is_in_range 2 512 (length w)) _ (and_true _ (list_all _ w) h).0).0 in
    let long = length-hex_bytes w (length w / 2) size.0 in (
      record { long = ap (is_in_range 1 256) long ∙ value_long (length w) (length w / 2) range size.0; each = bytes_small (hex_bytes w) (IsBytes-hex_bytes 2 512 w h) },
      hex_text-hex_bytes 2 512 w h,
    )

-- Requests.
clearing_read : (g : Layout) (c e : List ℕ) → is_asked_word (λ n. n == 0) g c ≡ true → exactly (codes "0") e ≡ true
    → IsCommand g (Request (resource_of_word c) 0 0) × (command_words (Request (resource_of_word c) 0 0) ≡ codes "request" ∷ codes "-r" ∷ c ∷ codes "-f" ∷ e ∷ [])
clearing_read g c e hc he =
    let zero = clearing_lver g c hc in
    let read = asked_read (λ n. n == 0) g c hc (omega (arith, zero)) in
    let digit : decimal 0 ≡ codes "0" = decimal_digit 0 (lit< tt) in (
      (read.0, record { below = lit< tt; forces = lit≤ tt; clears = (λ _. refl, λ _. refl) }),
      five_same _ _ _ _ _ _ _ _ _ _ refl refl (ap (λ n. coloned (resource_parts (resource_of_word c) ++ decimal n ∷ [])) (sym zero) ∙ read.2) refl (digit ∙ word_is (codes "0") e he),
    )

asking_lver : (n : ℕ) → is_in_range 1 (2 ^ 63 - 1) n ≡ true → (1 ≤ n) × (n < 2 ^ 63)
asking_lver n h =
    let parts = and_true (leb 1 n) (leb n (2 ^ 63 - 1)) h in
    let most : n ≤ 2 ^ 63 - 1 = leb-true n (2 ^ 63 - 1) parts.1 in
    let positive : 1 ≤ n = leb-true 1 n parts.0 in (positive, omega (arith, most))

below_more : (n : ℕ) → n < 2 ^ 63 → n < 2 ^ 64
below_more n h = omega arith

not_zero : (n : ℕ) → 1 ≤ n → n ≡ 0 → ⊥
not_zero n h z = omega arith

asking_read : (g : Layout) (c e : List ℕ) → is_asked_word (λ n. is_in_range 1 (2 ^ 63 - 1) n) g c ≡ true → is_number_that (is_in_range 1 2) e ≡ true
    → IsCommand g (Request (resource_of_word c) (asked_of_word c) (number_of e))
    × (command_words (Request (resource_of_word c) (asked_of_word c) (number_of e)) ≡ codes "request" ∷ codes "-r" ∷ c ∷ codes "-f" ∷ e ∷ [])
asking_read g c e hc he =
    let range : is_in_range 1 (2 ^ 63 - 1) (asked_of_word c) ≡ true = (and_true _ _ (and_true _ _ hc).1).1 in
    let lver = asking_lver (asked_of_word c) range in
    let small : asked_of_word c < 2 ^ 64 = below_more (asked_of_word c) lver.1 in
    let read = asked_read (λ n. is_in_range 1 (2 ^ 63 - 1) n) g c hc small in
    let force = number_read (is_in_range 1 2) e he (range_small 1 2 (number_of e) (lit< tt) (and_true _ _ he).1) in
    let low : 1 ≤ number_of e = leb-true 1 (number_of e) (and_true (leb 1 (number_of e)) (leb (number_of e) 2) force.0).0 in
    let high : number_of e ≤ 2 = leb-true (number_of e) 2 (and_true (leb 1 (number_of e)) (leb (number_of e) 2) force.0).1 in (
      (read.0, record { below = lver.1; forces = high; clears = (λ z. absurd (not_zero (number_of e) low z), λ z. absurd (not_zero (asked_of_word c) lver.0 z)) }),
      five_same _ _ _ _ _ _ _ _ _ _ refl refl read.2 refl force.1,
    )

-- The form of a value.
seven_same : (a b c d e f h t u v w x y z : List ℕ) → a ≡ t → b ≡ u → c ≡ v → d ≡ w → e ≡ x → f ≡ y → h ≡ z
    → (a ∷ b ∷ c ∷ d ∷ e ∷ f ∷ h ∷ []) ≡ (t ∷ u ∷ v ∷ w ∷ x ∷ y ∷ z ∷ [])
seven_same a b c d e f h t u v w x y z i j k l m n o = cc

-- Each form agrees with the words of its commands.
abbrev AllAgree : Layout → List (Form Command) → Type 0
AllAgree g [] = Unit {0}
AllAgree g (f ∷ fs) = Agrees g f × AllAgree g fs

status_words : (g : Layout) → Agrees g (record { words = exactly (codes "status") ∷ []; make = λ ws. Status })
status_words g =
    some_word (exactly (codes "status")) [] (Says g (λ ws. Status)) (λ a vs ha. no_word (λ us. Says g (λ ws. Status) (a ∷ us)) (tt, ap (λ w. w ∷ []) (word_is (codes "status") a ha)) vs)

set_value_words : (g : Layout) → Agrees g (record {
  words = exactly (codes "set_lvb") ∷ exactly (codes "-r") ∷ is_resource_word g ∷ exactly (codes "-p") ∷ is_process_word ∷ exactly (codes "-d") ∷ is_hex_word 2 512 ∷ [];
  make = λ ws. SetLvb (resource_of_word (word_at ws 2)) (number_of (word_at ws 4)) (hex_bytes (word_at ws 6));
})
set_value_words g =
    seven_words (exactly (codes "set_lvb")) (exactly (codes "-r")) (is_resource_word g) (exactly (codes "-p")) is_process_word (exactly (codes "-d")) (is_hex_word 2 512)
    (Says g (λ ws. SetLvb (resource_of_word (word_at ws 2)) (number_of (word_at ws 4)) (hex_bytes (word_at ws 6)))) (λ a b c d e f h ha hb hc hd he hf hh.
    let resource = resource_read g c hc in
    let process = process_read e he in
    let value = value_read h hh in (
      (resource.0, process.0, value.0),
      seven_same _ _ _ _ _ _ _ _ _ _ _ _ _ _ (word_is (codes "set_lvb") a ha) (word_is (codes "-r") b hb) resource.1 (word_is (codes "-p") d hd) process.1 (word_is (codes "-d") f hf) value.1,
    ))

-- The form of a kill program.
killpath_words : (g : Layout) → Agrees g (record {
  words = exactly (codes "set_killpath") ∷ exactly (codes "-p") ∷ is_process_word ∷ exactly (codes "-c") ∷ is_path ∷ [];
  make = λ ws. SetKillpath (number_of (word_at ws 2)) (word_at ws 4);
})
killpath_words g =
    five_words (exactly (codes "set_killpath")) (exactly (codes "-p")) is_process_word (exactly (codes "-c")) is_path
    (Says g (λ ws. SetKillpath (number_of (word_at ws 2)) (word_at ws 4))) (λ a b c d e ha hb hc hd he.
    let process = process_read c hc in
    ((process.0, he), five_same _ _ _ _ _ _ _ _ _ _ (word_is (codes "set_killpath") a ha) (word_is (codes "-p") b hb) process.1 (word_is (codes "-c") d hd) refl))

-- The four forms of an acquire in a mode.
abbrev ReadsMode : Layout → (List ℕ → Bool) → Bool → Type 0
ReadsMode g q shared = (w : List ℕ) → q w ≡ true → IsResourceArg g (resource_of_word w) × (moded_word (resource_of_word w) shared ≡ w)

plain_acquire : (g : Layout) (q : List ℕ → Bool) (shared : Bool) → ReadsMode g q shared → Agrees g (acquire_form q [] (λ r p. Acquire r shared p false))
plain_acquire g q shared reads = acquire_agrees g q shared [] (λ r p. Acquire r shared p false) reads (λ r p is h. (is, h)) (λ r p. refl)

persistent_acquire : (g : Layout) (q : List ℕ → Bool) (shared : Bool) → ReadsMode g q shared
    → Agrees g (acquire_form q (option_words (codes "-P")) (λ r p. Acquire r shared p true))
persistent_acquire g q shared reads =
    acquire_agrees g q shared (codes "-P" ∷ codes "1" ∷ []) (λ r p. Acquire r shared p true) reads (λ r p is h. (is, h)) (λ r p. refl)

plain_take_over : (g : Layout) (q : List ℕ → Bool) (shared : Bool) → ReadsMode g q shared
    → Agrees g (acquire_form q (option_words (codes "-O")) (λ r p. TakeOver r shared p false))
plain_take_over g q shared reads =
    acquire_agrees g q shared (codes "-O" ∷ codes "1" ∷ []) (λ r p. TakeOver r shared p false) reads (λ r p is h. (is, h)) (λ r p. refl)

persistent_take_over : (g : Layout) (q : List ℕ → Bool) (shared : Bool) → ReadsMode g q shared
    → Agrees g (acquire_form q (option_words (codes "-P") ++ option_words (codes "-O")) (λ r p. TakeOver r shared p true))
persistent_take_over g q shared reads =
    acquire_agrees g q shared (codes "-P" ∷ codes "1" ∷ codes "-O" ∷ codes "1" ∷ []) (λ r p. TakeOver r shared p true) reads (λ r p is h. (is, h)) (λ r p. refl)

-- The forms of what a process does with a resource, in one mode or in either.
process_agrees : (g : Layout) (verb : List ℕ) (q : List ℕ → Bool) (shared : Bool) (make : ResourceArg → ℕ → Command)
    → ((w : List ℕ) → q w ≡ true → IsResourceArg g (resource_of_word w) × (moded_word (resource_of_word w) shared ≡ w))
    → ((r : ResourceArg) (p : ℕ) → IsResourceArg g r → IsProcess p → IsCommand g (make r p))
    → ((r : ResourceArg) (p : ℕ) → command_words (make r p) ≡ verb ∷ codes "-r" ∷ moded_word r shared ∷ codes "-p" ∷ decimal p ∷ [])
    → Agrees g (record { words = exactly verb ∷ exactly (codes "-r") ∷ q ∷ exactly (codes "-p") ∷ is_process_word ∷ []; make = λ ws. make (resource_of_word (word_at ws 2)) (number_of (word_at ws 4)) })
process_agrees g verb q shared make reads may says =
    resource_agrees g verb (codes "-p") q is_process_word (λ ws. make (resource_of_word (word_at ws 2)) (number_of (word_at ws 4))) (λ a b c d e hc he.
    let r = reads c hc in
    let p = process_read e he in (may _ _ r.0 p.0, says _ _ ∙ five_same _ _ _ _ _ _ _ _ _ _ refl refl r.1 refl p.1))

-- The form of a program that runs under a resource.
program_agrees : (g : Layout) (q : List ℕ → Bool) (shared : Bool) → ((w : List ℕ) → q w ≡ true → IsResourceArg g (resource_of_word w) × (moded_word (resource_of_word w) shared ≡ w))
    → Agrees g (record {
      words = exactly (codes "command") ∷ exactly (codes "-r") ∷ q ∷ exactly (codes "-c") ∷ is_path ∷ [];
      make = λ ws. RunProgram (resource_of_word (word_at ws 2)) shared (word_at ws 4);
    })
program_agrees g q shared reads =
    resource_agrees g (codes "command") (codes "-c") q is_path (λ ws. RunProgram (resource_of_word (word_at ws 2)) shared (word_at ws 4)) (λ a b c d e hc he.
    let r = reads c hc in ((r.0, he), five_same _ _ _ _ _ _ _ _ _ _ refl refl r.1 refl refl))

orphan_agrees : (g : Layout) → Agrees g (record {
  words = exactly (codes "release") ∷ exactly (codes "-r") ∷ is_resource_word g ∷ option_words (codes "-O");
  make = λ ws. ReleaseOrphan (resource_of_word (word_at ws 2));
})
orphan_agrees g =
    resource_agrees g (codes "release") (codes "-O") (is_resource_word g) (exactly (codes "1")) (λ ws. ReleaseOrphan (resource_of_word (word_at ws 2))) (λ a b c d e hc he.
    let r = resource_read g c hc in (r.0, five_same _ _ _ _ _ _ _ _ _ _ refl refl r.1 refl (word_is (codes "1") e he)))

all_agree : (g : Layout) → g.hosts < 2 ^ 64 → AllAgree g (forms g)
unfolding forms
all_agree g few = (
  plain_acquire g (is_resource_word g) false (resource_read g),
  (
    persistent_acquire g (is_resource_word g) false (resource_read g),
    (
      plain_take_over g (is_resource_word g) false (resource_read g),
      (
        persistent_take_over g (is_resource_word g) false (resource_read g),
        (
          plain_acquire g (is_shared_word g) true (shared_read g),
          (
            persistent_acquire g (is_shared_word g) true (shared_read g),
            (
              plain_take_over g (is_shared_word g) true (shared_read g),
              (
                persistent_take_over g (is_shared_word g) true (shared_read g),
                (
                  lockspace_agrees g (codes "add_lockspace") (λ a. AddLockspace a) few (λ a is. is) (λ a. refl),
                  (
                    lockspace_agrees g (codes "rem_lockspace") (λ a. RemLockspace a) few (λ a is. is) (λ a. refl),
                    (
                      lockspace_agrees g (codes "inq_lockspace") (λ a. InqLockspace a) few (λ a is. is) (λ a. refl),
                      (
                        lockspace_agrees g (codes "host_status") (λ a. HostStatus a) few (λ a is. is) (λ a. refl),
                        (
                          process_agrees g (codes "release") (is_resource_word g) false (λ r p. Release r p) (resource_read g) (λ r p is h. (is, h)) (λ r p. refl),
                          (
                            orphan_agrees g,
                            (
                              process_agrees g (codes "convert") (is_resource_word g) false (λ r p. Convert r false p) (resource_read g) (λ r p is h. (is, h)) (λ r p. refl),
                              (
                                process_agrees g (codes "convert") (is_shared_word g) true (λ r p. Convert r true p) (shared_read g) (λ r p is h. (is, h)) (λ r p. refl),
                                (
                                  program_agrees g (is_resource_word g) false (resource_read g),
                                  (
                                    program_agrees g (is_shared_word g) true (shared_read g),
                                    (
                                      resource_agrees g (codes "request") (codes "-f") (is_asked_word (λ n. n == 0) g) (exactly (codes "0")) (λ ws. Request (resource_of_word (word_at ws 2)) 0 0)
                                          (λ a b c d e hc he. clearing_read g c e hc he),
                                      (
                                        resource_agrees g (codes "request") (codes "-f") (is_asked_word (λ n. is_in_range 1 (2 ^ 63 - 1) n) g) (is_number_that (is_in_range 1 2))
                                            (λ ws. Request (resource_of_word (word_at ws 2)) (asked_of_word (word_at ws 2)) (number_of (word_at ws 4))) (λ a b c d e hc he. asking_read g c e hc he),
                                        (
                                          process_agrees g (codes "get_lvb") (is_resource_word g) false (λ r p. GetLvb r p) (resource_read g) (λ r p is h. (is, h)) (λ r p. refl),
                                          (
                                            set_value_words g,
                                            (
                                              killpath_words g,
                                              (
                                                status_words g,
                                                tt,
                                              ),
                                            ),
                                          ),
                                        ),
                                      ),
                                    ),
                                  ),
                                ),
                              ),
                            ),
                          ),
                        ),
                      ),
                    ),
                  ),
                ),
              ),
            ),
          ),
        ),
      ),
    ),
  ),
)

-- What forms that agree make of words is a command of those words.
made_agrees : (g : Layout) (fs : List (Form Command)) → AllAgree g fs → (ws : List (List ℕ)) (c : Command) → made_by fs ws ≡ Some c → IsCommand g c × (command_words c ≡ ws)
made_agrees g [] all ws c h = absurd cc
made_agrees g (f ∷ fs) all ws c h =
    elim (fits_whole f.words ws) as (λ t. fits_whole f.words ws ≡ t → option_map (λ (f : Form Command). f.make ws) (cond t (Some f) (find (λ f. fits_whole f.words ws) fs)) ≡ Some c
    → IsCommand g c × (command_words c ≡ ws)) [
      | true ↦ λ e made. let same : f.make ws ≡ c = some_value _ _ made in subst (λ (d : Command). IsCommand g d × (command_words d ≡ ws)) same (all.0 ws e)
      | false ↦ λ e made. made_agrees g fs all.1 ws c made
    ] refl h

-- What the forms of commands make of words is a command that it may name, and the words are that command's.
pub command_of_words : (g : Layout) → g.hosts < 2 ^ 64 → (ws : List (List ℕ)) (c : Command) → made_by (forms g) ws ≡ Some c → IsCommand g c × (command_words c ≡ ws)
command_of_words g few = made_agrees g (forms g) (all_agree g few)
