-- Words with a byte between them.
use Rattle.sl_sector.specs.Bitmaps.{bits_of}
use Rattle.sl_sector.specs.RecordTexts.{bits_words, block_back, dash_for_none, delta_back, delta_front, delta_word, record_text}
use Rattle.sl_sector.specs.SectorLayouts.{flag}
use Rattle.sl_sector.specs.declared.sector.Block.{Block}
use Rattle.sl_sector.specs.declared.sector.DeltaRec.{DeltaRec}
use Rattle.sl_sector.specs.declared.sector.Rec.TheVariants.{DeltaIs}
use Rattle.sl_text.specs.Forms.{spaced}
use Rattle.std.proofs.Common.{List, [], ap, codes, get_or, length, sym, take, ℕ, ◌+◌, ◌++◌, ◌<◌, ◌≡◌, ◌≤◌, ◌∙◌, ◌∷◌}
use Rattle.std.proofs.lemmas.List.{append-nil, append_assoc, take_all, take_more}
use Rattle.std.proofs.lemmas.Grind.{flat_map-append}
use Rattle.std.specs.List.{flat_map, join_with_byte}
use Rattle.std.specs.Prelude.{decimal, map, unwrap_or}

-- The first word, and each further one behind the byte.
pub join_with_byte-cons : (c : ℕ) (w : List ℕ) (ws : List (List ℕ)) → join_with_byte c (w ∷ ws) ≡ w ++ flat_map (λ v. c ∷ v) ws
join_with_byte-cons c w [] = sym (append-nil w)
join_with_byte-cons c w (v ∷ vs) = ap (λ (x : List ℕ). w ++ c ∷ x) (join_with_byte-cons c v vs)

-- Of texts that are added one after another: one more, and all.
pub one_pushed : {A : Type 0} (text : A → List ℕ) (old now new : List ℕ) (xs : List A) (i : ℕ) (d : A) → i < length xs → now ≡ old ++ flat_map text (take i xs)
    → new ≡ now ++ text (get_or xs i d) → new ≡ old ++ flat_map text (take (i + 1) xs)
one_pushed text old now new xs i d inside so_far one =
    let last = flat_map-append text (take i xs) (get_or xs i d ∷ []) ∙ ap (λ t. flat_map text (take i xs) ++ t) (append-nil (text (get_or xs i d))) in
    one
    ∙ ap (λ t. t ++ text (get_or xs i d)) so_far
    ∙ append_assoc old (flat_map text (take i xs)) (text (get_or xs i d))
    ∙ ap (λ t. old ++ t) (sym last)
    ∙ ap (λ ys. old ++ flat_map text ys) (sym (take_more xs i d inside))

pub all_pushed : {A : Type 0} (text : A → List ℕ) (old new : List ℕ) (xs : List A) (i : ℕ) → length xs ≤ i → new ≡ old ++ flat_map text (take i xs)
    → new ≡ old ++ flat_map text xs
all_pushed text old new xs i end so_far = so_far ∙ ap (λ ys. old ++ flat_map text ys) (take_all i xs end)

-- Numbers with a comma between them.
pub listed : (k : ℕ) (ks : List ℕ) → join_with_byte 44 (map decimal (k ∷ ks)) ≡ decimal k ++ flat_map (λ n. 44 ∷ decimal n) ks
listed k [] = sym (append-nil (decimal k))
listed k (n ∷ ns) = ap (λ (x : List ℕ). decimal k ++ 44 ∷ x) (listed n ns)

-- Bits behind a space, of which there are some.
bits_behind : (k : ℕ) (ks : List ℕ) → flat_map (λ w. 32 ∷ w) (bits_words (k ∷ ks)) ≡ codes " bits " ++ (decimal k ++ flat_map (λ n. 44 ∷ decimal n) ks)
bits_behind k ks = ap (λ (x : List ℕ). codes " bits " ++ x) (append-nil (join_with_byte 44 (map decimal (k ∷ ks))) ∙ listed k ks)

-- One text after another: the word, the first bit, the others.
pub pushed_bits : (bits rest : List ℕ) (first : ℕ) (old a b new : List ℕ) → bits ≡ first ∷ rest → a ≡ old ++ codes " bits " → b ≡ a ++ decimal first
    → new ≡ b ++ flat_map (λ n. 44 ∷ decimal n) rest → new ≡ old ++ flat_map (λ w. 32 ∷ w) (bits_words bits)
pushed_bits bits rest first old a b new is word one others =
    let behind = flat_map (λ n. 44 ∷ decimal n) rest in
    others ∙ rw (one, word, is)
    (append_assoc (old ++ codes " bits ") (decimal first) behind ∙ append_assoc old (codes " bits ") (decimal first ++ behind)
    ∙ ap (λ (x : List ℕ). old ++ x) (sym (bits_behind first rest)))

-- Words before and behind one word, and further ones, behind a text.
spaced_around : (w : List ℕ) (ws : List (List ℕ)) (host : List ℕ) (v : List ℕ) (vs bits : List (List ℕ)) (old front a b line : List ℕ)
    → front ≡ old ++ spaced (w ∷ ws) → a ≡ front ++ 32 ∷ host → b ≡ a ++ 32 ∷ spaced (v ∷ vs) → line ≡ b ++ flat_map (λ u. 32 ∷ u) bits
    → line ≡ old ++ spaced ((w ∷ ws) ++ host ∷ ((v ∷ vs) ++ bits))
spaced_around w ws host v vs bits old front a b line is_front one two three =
    let behind = λ (u : List ℕ). 32 ∷ u in
    three ∙ rw (two, one, is_front)
    (simp (append_assoc, join_with_byte-cons, flat_map-append behind ws (host ∷ ((v ∷ vs) ++ bits)), flat_map-append behind vs bits))

-- A delta record's line, one part after another.
pub delta_line : (d : DeltaRec) (old front host bits a b line : List ℕ) → front ≡ old ++ spaced (delta_front d) → host ≡ dash_for_none (unwrap_or d.host [])
    → bits ≡ bits_of d.bitmap → a ≡ front ++ 32 ∷ host → b ≡ a ++ 32 ∷ spaced (delta_back d)
    → line ≡ b ++ flat_map (λ u. 32 ∷ u) (bits_words bits) → line ≡ old ++ record_text (DeltaIs d)
delta_line d old front host bits a b line is_front is_host is_bits one two three =
    rw (← is_host, ← is_bits)
    (spaced_around (codes "delta") (decimal d.id ∷ codes "gen" ∷ decimal d.generation ∷ delta_word d.state ∷ []) host (codes "seq")
    (decimal d.seq ∷ codes "stamp" ∷ decimal d.stamp ∷ []) (bits_words bits) old front a b line is_front one two three)

-- What a block tells behind its host, one part after another.
pub block_back_written : (b : Block) (inp mode : ℕ) (old u v w x new : List ℕ) → inp ≡ b.inp → mode ≡ flag b.shared
    → u ≡ old ++ (codes " lver " ++ (decimal b.lver ++ (codes " mbal " ++ (decimal b.mbal ++ (codes " bal " ++ decimal b.bal)))))
    → v ≡ u ++ 32 ∷ (codes "inp" ++ 32 ∷ decimal inp) → w ≡ v ++ 32 ∷ decimal b.inp_gen → x ≡ w ++ 32 ∷ (codes "mode" ++ 32 ∷ decimal mode)
    → new ≡ x ++ 32 ∷ decimal b.mode_gen → new ≡ old ++ 32 ∷ spaced (block_back b)
block_back_written b inp mode old u v w x new is_inp is_mode one two three four five =
    five ∙ rw (four, three, two, one, is_inp, is_mode) (simp append_assoc)
