-- Words and lines that are written one behind another.
use Rattle.sl_command.specs.OutputLines.{IsFront, KeepsFronts, behind, class_text, counted, line_text}
use Rattle.sl_sector.proofs.TextLaws.{join_with_byte-cons}
use Rattle.sl_sector.specs.RecordTexts.{dash_for_none, record_words}
use Rattle.sl_sector.specs.declared.sector.Rec.TheVariants.{BlockIs, DeltaIs, LeaderIs, PairIs, PairLeaderIs, RequestIs, ValueIs}
use Rattle.sl_sector.specs.declared.sector.Rec.{Rec}
use Rattle.sl_text.specs.Forms.{as_bytes, spaced}
use Rattle.sl_text.specs.Numbers.{hex_text}
use Rattle.sl_trace.specs.EffectTexts.{answer_words, machine_line, reply_text, reply_words}
use Rattle.sl_trace.specs.declared.effects.JobReply.{JobReply}
use Rattle.sl_trace.specs.declared.reply.Reply.TheVariants.{Ahead, BadCommand as Misread, Busy, Done, Generation, Granted, Held as HeldBy, Hosts, IdHeld, IdLate, IdLost, IoFault, IoTimeout, Joined, Joining as StillJoining, Limit as LimitReached, NoOrphan, NoProcess, NoSession, NotHeld, Pending, Recovering, RequestOld, Rival, Sessions, Shared as SharedBy, SpawnFault, Started, TornBlock, TornDelta, TornLeader, Value, ValueSet, ValueTorn, WrongArea, WrongDelta}
use Rattle.sl_trace.specs.declared.reply.Reply.{Reply}
use Rattle.sl_words.specs.Words.{is_empty}
use Rattle.std.proofs.Common.{List, [], ap, append-nil, arith, codes, decimal, false, length, map, refl, slice_index_or, sym, take, ℕ, ◌+◌, ◌++◌, ◌<◌, ◌≡◌, ◌≤◌, ◌∙◌, ◌∷◌}
use Rattle.std.proofs.lemmas.List.Concat.{flat_map-append}
use Rattle.std.proofs.lemmas.List.Folds.{flat_map-map}
use Rattle.std.proofs.lemmas.List.{append_assoc, length-take, take-append-le, take_all, take_more}
use Rattle.std.specs.List.{flat_map}
use Rattle.std.specs.Prelude.{Err, Ok, OnOk, Result}

-- A front stays where more is written behind the text.
pub front_stays : (front old new more : List ℕ) → IsFront front old → new ≡ old ++ more → IsFront front new
unfolding IsFront
front_stays front old new more is written =
    let inside : length front ≤ length old = omega (arith, ap length is, length-take (length front) old) in
    ap (take (length front)) written ∙ take-append-le (length front) old more inside ∙ is

-- The whole text is a front too, so cutting at its length brings it back.
pub whole_kept : (old new : List ℕ) → KeepsFronts old new → take (length old) new ≡ old
unfolding IsFront
whole_kept old new kept = kept old (take_all (length old) old (omega arith))

-- A first word, and others behind it.
pub spaced-cons : (word : List ℕ) (ws : List (List ℕ)) → spaced (word ∷ ws) ≡ word ++ behind ws
spaced-cons word ws = join_with_byte-cons 32 word ws

-- Numbers behind a word.
pub counted-is : (word : List ℕ) (ns : List ℕ) → counted word ns ≡ word ++ flat_map (λ n. 32 ∷ decimal n) ns
counted-is word ns = spaced-cons word (map decimal ns) ∙ ap (λ bs. word ++ bs) (flat_map-map (λ w. 32 ∷ w) decimal ns)

-- A text behind one that was written behind another.
pub written_behind : (old a new word rest whole : List ℕ) → a ≡ old ++ word → new ≡ a ++ rest → whole ≡ word ++ rest → new ≡ old ++ whole
written_behind old a new word rest whole first then is =
    then ∙ ap (λ bs. bs ++ rest) first ∙ append_assoc old word rest ∙ ap (λ bs. old ++ bs) (sym is)

pub words_written : (old a new word : List ℕ) (ws : List (List ℕ)) → a ≡ old ++ word → new ≡ a ++ behind ws → new ≡ old ++ spaced (word ∷ ws)
words_written old a new word ws first then = written_behind old a new word (behind ws) (spaced (word ∷ ws)) first then (spaced-cons word ws)

pub numbers_written : (old a new word : List ℕ) (ns : List ℕ) → a ≡ old ++ word → new ≡ a ++ flat_map (λ n. 32 ∷ decimal n) ns → new ≡ old ++ counted word ns
numbers_written old a new word ns first then =
    written_behind old a new word (flat_map (λ n. 32 ∷ decimal n) ns) (counted word ns) first then (counted-is word ns)

-- Some bytes have digits.
pub dash_for_none-hex_text : (bs : List ℕ) → (bs ≡ [] → ⊥) → dash_for_none (hex_text bs) ≡ hex_text bs
dash_for_none-hex_text [] some = absurd (some refl)
dash_for_none-hex_text (b ∷ bs) some = refl

-- Words behind words, of which there are some.
pub spaced-front : (w : List ℕ) (ws : List (List ℕ)) → is_empty ws ≡ false → spaced (w ∷ ws) ≡ w ++ 32 ∷ spaced ws
spaced-front w [] some = absurd cc
spaced-front w (v ∷ vs) some = refl

-- A reply has words.
reply_has_words : (r : Reply) → is_empty (reply_words r) ≡ false
unfolding reply_words
reply_has_words Done = refl
reply_has_words (Generation g) = refl
reply_has_words (Granted lver) = refl
reply_has_words (Started lver process) = refl
reply_has_words (Value lver seq bytes) = refl
reply_has_words (ValueSet lver seq) = refl
reply_has_words (Hosts states) = refl
reply_has_words (Sessions sessions) = refl
reply_has_words NoSession = refl
reply_has_words StillJoining = refl
reply_has_words (Recovering t) = refl
reply_has_words (IdHeld first later) = refl
reply_has_words (IdLost own found) = refl
reply_has_words (IdLate claimed now) = refl
reply_has_words TornDelta = refl
reply_has_words TornLeader = refl
reply_has_words (TornBlock host) = refl
reply_has_words (HeldBy lver owner) = refl
reply_has_words (SharedBy owner) = refl
reply_has_words (Rival host mbal) = refl
reply_has_words (Ahead host lver) = refl
reply_has_words (IoTimeout call from to) = refl
reply_has_words (IoFault call) = refl
reply_has_words (Pending call) = refl
reply_has_words (Busy process) = refl
reply_has_words NoOrphan = refl
reply_has_words NotHeld = refl
reply_has_words SpawnFault = refl
reply_has_words ValueTorn = refl
reply_has_words (Misread column) = refl
reply_has_words (LimitReached which) = refl
reply_has_words (RequestOld held stored) = refl
reply_has_words (WrongArea lockspace resource hosts) = refl
reply_has_words (WrongDelta lockspace id) = refl
reply_has_words (NoProcess process) = refl
reply_has_words (Joined generation) = refl

-- The line of a reply.
pub reply_written : (old a b new : List ℕ) (machine : ℕ) (answer : JobReply) → a ≡ old ++ spaced (decimal machine ∷ codes "reply" ∷ decimal answer.job ∷ [])
    → b ≡ a ++ 32 ∷ reply_text answer.reply → new ≡ b ++ 10 ∷ [] → new ≡ old ++ line_text machine (answer_words answer)
reply_written old a b new machine answer front text feed =
    let words = spaced-front (decimal answer.job) (reply_words answer.reply) (reply_has_words answer.reply) in
    feed ∙ rw (text, front) (simp (append_assoc, words))

-- The lines of one class.
class_alone : {A : Type 0} (machine : ℕ) (words : A → List (List ℕ)) (xs : List A) → as_bytes (map (machine_line machine) (map words xs)) ≡ class_text machine words xs
class_alone machine words [] = refl
class_alone machine words (x ∷ xs) = ap (λ bs. line_text machine (words x) ++ bs) (class_alone machine words xs)

-- .. behind those before them.
class_behind : {A : Type 0} (machine : ℕ) (words : A → List (List ℕ)) (xs : List A) (front : List (List (List ℕ)))
    → as_bytes (map (machine_line machine) (front ++ map words xs)) ≡ as_bytes (map (machine_line machine) front) ++ class_text machine words xs
class_behind machine words xs [] = class_alone machine words xs
class_behind machine words xs (f ∷ front) =
    ap (λ bs. machine_line machine f ++ 10 ∷ [] ++ bs) (class_behind machine words xs front)
    ∙ sym (append_assoc (machine_line machine f ++ 10 ∷ []) (as_bytes (map (machine_line machine) front)) (class_text machine words xs))

-- One class more of a step.
pub class_written : {A : Type 0} (machine : ℕ) (words : A → List (List ℕ)) (xs ys : List A) (old a new : List ℕ) (front : List (List (List ℕ)))
    → a ≡ old ++ as_bytes (map (machine_line machine) front) → ys ≡ xs → new ≡ a ++ class_text machine words ys
    → new ≡ old ++ as_bytes (map (machine_line machine) (front ++ map words xs))
class_written machine words xs ys old a new front first same then =
    written_behind old a new _ _ _ first (then ∙ ap (λ zs. a ++ class_text machine words zs) same) (class_behind machine words xs front)

-- One entry more of a list.
pub one_read : {A : Type 0} (text : A → List ℕ) (xs : List A) (k : ℕ) (d : A) (old a new : List ℕ) → k < length xs → a ≡ old ++ flat_map text (take k xs)
    → new ≡ a ++ text (slice_index_or xs k d) → new ≡ old ++ flat_map text (take (k + 1) xs)
one_read text xs k d old a new inside first then =
    let x = slice_index_or xs k d in
    written_behind old a new (flat_map text (take k xs)) (text x) (flat_map text (take (k + 1) xs)) first then
    (ap (flat_map text) (take_more xs k d inside) ∙ flat_map-append text (take k xs) (x ∷ []) ∙ ap (λ bs. flat_map text (take k xs) ++ bs) (append-nil (text x)))

pub one_more : {A : Type 0} (text : A → List ℕ) (xs : List A) (k : ℕ) (x : A) (old a new : List ℕ) → k < length xs → x ≡ slice_index_or xs k x
    → a ≡ old ++ flat_map text (take k xs) → new ≡ a ++ text x → new ≡ old ++ flat_map text (take (k + 1) xs)
one_more text xs k x old a new inside is first then = one_read text xs k x old a new inside first (then ∙ ap (λ y. a ++ text y) is)

-- One word more of a list, behind a space.
pub one_word_more : {A : Type 0} (word : A → List ℕ) (xs : List A) (k : ℕ) (x : A) (old a new : List ℕ) → k < length xs → x ≡ slice_index_or xs k x
    → a ≡ old ++ behind (map word (take k xs)) → new ≡ a ++ 32 ∷ word x → new ≡ old ++ behind (map word (take (k + 1) xs))
one_word_more word xs k x old a new inside is first then =
    one_more (λ y. 32 ∷ word y) xs k x old a new inside is (first ∙ ap (λ bs. old ++ bs) (flat_map-map (λ w. 32 ∷ w) word (take k xs))) then
    ∙ ap (λ bs. old ++ bs) (sym (flat_map-map (λ w. 32 ∷ w) word (take (k + 1) xs)))

-- A record has words.
record_has_words : (r : Rec) → is_empty (record_words r) ≡ false
record_has_words (DeltaIs d) = refl
record_has_words (LeaderIs l) = refl
record_has_words (BlockIs b) = refl
record_has_words (RequestIs r) = refl
record_has_words (ValueIs v) = refl
record_has_words (PairIs p) = refl
record_has_words (PairLeaderIs l) = refl

-- The line of a write.
pub write_written : {E : Type 0} (done : Result (Unit {0}) E) (old a b c new path : List ℕ) (machine number offset : ℕ) (r : Rec)
    → a ≡ old ++ machine_line machine (codes "call" ∷ decimal number ∷ codes "write" ∷ path ∷ decimal offset ∷ [])
    → b ≡ a ++ 32 ∷ [] → c ≡ b ++ spaced (record_words r) → OnOk done (new ≡ c ++ 10 ∷ [])
    → OnOk done (new ≡ old ++ line_text machine (codes "call" ∷ decimal number ∷ codes "write" ∷ path ∷ decimal offset ∷ record_words r))
write_written (Err e) old a b c new path machine number offset r front space text feed = tt
write_written (Ok x) old a b c new path machine number offset r front space text feed =
    let words = spaced-front (decimal offset) (record_words r) (record_has_words r) in
    feed ∙ rw (text, space, front) (simp (append_assoc, words))

-- What writing numbers behind a word uses.
pub ruleset numbers = (numbers_written)

-- What writing words behind a word uses.
pub ruleset words = (words_written)

-- What writing bytes uses.
pub ruleset digits = (dash_for_none-hex_text, front_stays)

-- What writing replies uses.
pub ruleset replies = (reply_written)
