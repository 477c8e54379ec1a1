-- What comes next, step by step: a list of it is read like its parts, one after another.
-- Assumes nothing.
use mathlib.Core.Path.{◌≡◌, refl, sym, ap, ap₂, ◌∙◌}
use mathlib.Core.Bool.{Bool, true, false, not, cond}
use mathlib.Core.List.{List, [], ◌∷◌, ◌++◌}
use Prim.Native.Nat.{ℕ, zero, suc, ◌+◌}
use native.Mathlib.Omega.{arith}
use lib.Dec.{T}
use lib.ListN.{get_or}
use Rattle.std.specs.Prelude.{Result, Ok, Err, Some, None}
use Rattle.std.specs.Result.{IsErr, IsErrAnd}
use Rattle.std.proofs.lemmas.Result.{err_from_is_err_and}
use Rattle.wire.specs.Answer.{answered, refuse}
use Rattle.wire.specs.Digits.{ascii}
use Rattle.wire.specs.Numbered.{refusal, number_of as number_of_refusal}
use Rattle.wire.specs.Refusal.{pick, first, numbered}
use Rattle.wire.specs.InTurn.{in_turn, first_faulty}
use Rattle.wire.specs.declared.refusals.Refusal.{Refusal}
use Rattle.wire.specs.declared.refusals.Refusal.TheVariants as R
use Rattle.wire.proofs.Answer.{accepted_as}
use Rattle.wire.proofs.InTurn.{turn_decides, turn_passes}
use Rattle.sm160_text.specs.declared.LineReader.{LineReader}
use Rattle.sm160_text.specs.declared.Span.{Span}
use Rattle.sm160_text.specs.Text.{is_at, text_end, text_at}
use Rattle.sm160_text.specs.Grammar.{Optional, Attribute, needed, optional, Part, tag, name, quotes, end, number_of, Next, sign, slash, text, absent, signs, the_tag, attribute, the_end, is_here, letter_of, past, past_all, comes, is_letter, rules_at, Placed, placed, place_rules, texts_in}
use Rattle.sm160_text.specs.Line.{Seen, seen, text_no, span_of}
use Rattle.sm160_text.specs.Reader.{reader_at}
use Rattle.sm160_text.specs.Walk.{good, characters, comes_of, Walks, Stands, stands, reads, the_text, line}
use Rattle.sm160_text.proofs.Places.{cond_true, cond_false}

-- after a refusal nothing more is read
abbrev onward : Seen → (ℕ → Seen) → Seen
onward was step = answered (λ _. was) (step was.place) was.number

-- no rule has the number 0
pub rules_numbered : (s : List ℕ) (x : Placed) → T (numbered (place_rules s x))
rules_numbered s x = go x.what
  where
    go : (y : Next) → T (numbered (rules_at s x.place y))
    go (sign tag c) = tt
    go (sign name c) = tt
    go (sign quotes c) = tt
    go (sign end c) = tt
    go slash = tt
    go text = tt
    go absent = tt

onward_good : (was : Seen) (step : ℕ → Seen) → was.number ≡ 0 → onward was step ≡ step was.place
onward_good was step e = ap (answered (λ _. was) (step was.place)) e

onward_bad : (was : Seen) (step : ℕ → Seen) → (was.number ≡ 0 → ⊥) → onward was step ≡ was
onward_bad was step some = go was.number refl
  where
    go : (n : ℕ) → was.number ≡ n → answered (λ _. was) (step was.place) n ≡ was
    go zero e = absurd (some e)
    go (suc n) e = refl

-- ---- a refusal by its number
pub refused_by : {A : Type 0} (x : A) (e : Refusal) → ◌≡◌ {A = Result A Refusal} (Err e) (answered refuse (Ok x) (number_of_refusal e))
unfolding refusal
refused_by x R.BadArgument = refl
refused_by x R.TooShort = refl
refused_by x R.NotBcd = refl
refused_by x R.BadLength = refl
refused_by x R.BadCrc = refl
refused_by x R.OtherAddress = refl
refused_by x R.OtherFunction = refl
refused_by x R.OtherId = refl
refused_by x R.OnItsWay = refl
refused_by x R.UnknownFunction = refl
refused_by x R.BadBody = refl
refused_by x R.BadMask = refl
refused_by x R.BadDate = refl
refused_by x R.BadArchiveType = refl
refused_by x R.BadStatus = refl
refused_by x R.NoRoom = refl
refused_by x R.TooLong = refl
refused_by x R.Unfit = refl
refused_by x R.ShortFrame = refl
refused_by x R.WrongSize = refl
refused_by x R.BadPart = refl
refused_by x R.WrongPartCrc = refl
refused_by x R.BadFlags = refl
refused_by x R.OtherSession = refl
refused_by x R.NothingUnderWay = refl
refused_by x R.StartElsewhere = refl
refused_by x R.BelowCount = refl
refused_by x R.AboveCount = refl
refused_by x R.BeyondBuffer = refl
refused_by x R.BadFile = refl
refused_by x R.BadLargest = refl
refused_by x R.PastEnd = refl
refused_by x R.OtherType = refl
refused_by x R.BadText = refl
refused_by x R.BadLengths = refl
refused_by x R.WrongDatagramCrc = refl
refused_by x R.Compressed = refl
refused_by x R.ShortEnvelope = refl
refused_by x R.LongEnvelope = refl
refused_by x R.OtherProtocol = refl
refused_by x R.WrongLengthField = refl
refused_by x R.WrongCrc = refl
refused_by x R.OtherCardLength = refl
refused_by x R.SpareSet = refl
refused_by x R.BadCardAddress = refl
refused_by x R.BadTime = refl
refused_by x R.UpperHalfSet = refl
refused_by x R.BadChannel = refl
refused_by x R.BadArchiveKind = refl
refused_by x R.NotCurrent = refl
refused_by x R.ShortLine = refl
refused_by x R.LongLine = refl
refused_by x R.BadMarks = refl
refused_by x R.BadCharacters = refl
refused_by x R.WrongLrc = refl
refused_by x R.NothingPresent = refl
refused_by x R.BelowEarlier = refl
refused_by x R.NotTaken = refl
refused_by x R.BadCount = refl
refused_by x R.OtherRecordType = refl
refused_by x R.BadRecord = refl
refused_by x R.BadRecordLength = refl
refused_by x R.BadDescriptor = refl
refused_by x R.OtherTag = refl
refused_by x R.OtherAttribute = refl
refused_by x R.BadQuote = refl
refused_by x R.NoLineEnd = refl
refused_by x R.NoAddress = refl
refused_by x R.NoSlot = refl
refused_by x R.EmptySlot = refl
refused_by x R.AddressPresent = refl
refused_by x R.NoEmptySlot = refl
refused_by x R.NobodyDue = refl

-- ---- steps of a reader
module _ {A : Type 0} (x : A) (was : LineReader) where
  pub seen_as : (is is' : Seen) (r : Result A Refusal) (now : LineReader) → is ≡ is' → Walks was x is r now → Walks was x is' r now
  seen_as is is' r now e w = record { answers = w.answers ∙ ap (λ (i : Seen). answered refuse (Ok x) i.number) e; moves = w.moves ∙ ap (λ (i : Seen). reader_at was.bytes i.place) e }

  pub given_as : (y : A) (is : Seen) (r : Result A Refusal) (now : LineReader) → x ≡ y → Walks was x is r now → Walks was y is r now
  given_as y is r now e w = record { answers = w.answers ∙ ap (λ (z : A). answered refuse (Ok z) is.number) e; moves = w.moves }

  -- what is refused gives nothing, and a `?` hands it on
  pub anything : {B : Type 0} (y : B) (is : Seen) (e : Refusal) (now : LineReader) → Walks was x is (Err e) now → Walks was y is (Err e) now
  anything {B = B} y is e now w = record { answers = go is.number w.answers; moves = w.moves }
    where
      go : (n : ℕ) → Err e ≡ answered refuse (Ok x) n → ◌≡◌ {A = Result B Refusal} (Err e) (answered refuse (Ok y) n)
      go zero q = absurd (cc)
      go (suc n) q = ap Err (cc)

  pub exits : (is : Seen) (e : Refusal) (r : Result A Refusal) (now : LineReader) → IsErr r × IsErrAnd r (λ d. d ≡ e) → Walks was x is (Err e) now → Walks was x is r now
  exits is e r now exit w = let p = err_from_is_err_and r exit.1 in record { answers = p.1 ∙ ap Err p.2 ∙ w.answers; moves = w.moves }

  -- what is accepted
  pub none_refused : (is : Seen) (a : A) (now : LineReader) → Walks was x is (Ok a) now → is.number ≡ 0
  none_refused is a now w = (accepted_as x is.number a (sym w.answers)).0

  pub is_given : (is : Seen) (a : A) (now : LineReader) → Walks was x is (Ok a) now → x ≡ a
  is_given is a now w = (accepted_as x is.number a (sym w.answers)).1

-- ---- characters, one after another: where the reader stands is where they were read to
module _ (was now : LineReader) (cs : List ℕ) (e : Refusal) (b : now.bytes ≡ was.bytes) where
  pub comes_to : (is : Seen) (r : Result (Unit {0}) Refusal) → is ≡ characters now.bytes.now was.place cs (number_of_refusal e) → now ≡ reader_at now.bytes is.place → r ≡ answered refuse (Ok (tt {0})) is.number
      → Walks was (tt {0}) (characters was.bytes.now was.place cs (number_of_refusal e)) r now
  comes_to is r q m a =
      let same : is ≡ characters was.bytes.now was.place cs (number_of_refusal e) = q ∙ ap (λ l. characters l.now was.place cs (number_of_refusal e)) b in
      record { answers = a ∙ ap (λ (i : Seen). answered refuse (Ok (tt {0})) i.number) same; moves = m ∙ ap₂ (λ l (i : Seen). reader_at l i.place) b same }

  pub comes_to_refusal : ◌≡◌ {A = Seen} (record { number = number_of_refusal e; place = now.place }) (characters now.bytes.now was.place cs (number_of_refusal e))
      → Walks was (tt {0}) (characters was.bytes.now was.place cs (number_of_refusal e)) (Err e) now
  comes_to_refusal q = comes_to (record { number = number_of_refusal e; place = now.place }) (Err e) q refl (refused_by (tt {0}) e)

  pub comes_to_end : good now.place ≡ characters now.bytes.now was.place cs (number_of_refusal e)
      → Walks was (tt {0}) (characters was.bytes.now was.place cs (number_of_refusal e)) (Ok tt) now
  comes_to_end q = comes_to (good now.place) (Ok tt) q refl refl

abbrev pub map_ok : {A B : Type 0} → (A → B) → Result A Refusal → Result B Refusal
map_ok f (Ok x) = Ok (f x)
map_ok f (Err e) = Err e

pub maps : {A B : Type 0} (f : A → B) (x : A) (was : LineReader) (is : Seen) (r : Result A Refusal) (now : LineReader) → Walks was x is r now → Walks was (f x) is (map_ok f r) now
maps {B = B} f x was is r now w = record { answers = ap (map_ok f) w.answers ∙ go is.number; moves = w.moves }
  where
    go : (n : ℕ) → map_ok f (answered refuse (Ok x) n) ≡ answered refuse (Ok (f x)) n
    go zero = refl
    go (suc n) = refl

module _ (s : List ℕ) where
  -- ---- the first of a list
  module _ (p : ℕ) (x : Next) (xs : List Next) where
    here : Placed
    here = record { place = p; what = x }

    pub passes : first (rules_at s p x) ≡ 0 → seen s p (x ∷ xs) ≡ seen s (past s p x) xs
    unfolding placed past_all first_faulty
    passes z =
        ap₂ (λ (n : ℕ) (q : Placed). record { number = n; place = q.place })
        (turn_passes (place_rules s) (rules_numbered s) (record { place = p; what = x }) (placed s (past s p x) xs) 0 (sym z) refl)
        (ap (answered (λ n. record { place = p; what = x }) (first_faulty (place_rules s) (record { place = past_all s (past s p x) xs; what = absent }) (placed s (past s p x) xs))) z)

    pub decides : (n : ℕ) → first (rules_at s p x) ≡ suc n → seen s p (x ∷ xs) ≡ record { number = suc n; place = p }
    unfolding placed past_all first_faulty
    decides n e =
        ap₂ (λ (n : ℕ) (q : Placed). record { number = n; place = q.place })
        (sym (turn_decides (place_rules s) (rules_numbered s) (record { place = p; what = x }) (placed s (past s p x) xs) (suc n) (sym e) (λ z. omega arith)))
        (ap (answered (λ n. record { place = p; what = x }) (first_faulty (place_rules s) (record { place = past_all s (past s p x) xs; what = absent }) (placed s (past s p x) xs))) e)

  -- where none of them is refused, the place after all of them
  pub seen_good : (p : ℕ) (xs : List Next) → (seen s p xs).number ≡ 0 → seen s p xs ≡ good (past_all s p xs)
  unfolding placed past_all in_turn first_faulty
  seen_good p [] z = refl
  seen_good p (x ∷ xs) z = go (first (rules_at s p x)) refl (seen_good (past s p x) xs)
    where
      go : (m : ℕ) → first (rules_at s p x) ≡ m → ((seen s (past s p x) xs).number ≡ 0 → seen s (past s p x) xs ≡ good (past_all s (past s p x) xs)) → seen s p (x ∷ xs) ≡ good (past_all s p (x ∷ xs))
      go zero e more = passes p x xs e ∙ more (ap (λ (r : Seen). r.number) (sym (passes p x xs e)) ∙ z)
      go (suc m) e more = absurd (let k : suc m ≡ 0 = ap (λ (r : Seen). r.number) (sym (decides p x xs m e)) ∙ z in omega arith)

  -- ---- two lists
  pub seen_append : (p : ℕ) (xs ys : List Next) → seen s p (xs ++ ys) ≡ onward (seen s p xs) (λ q. seen s q ys)
  unfolding placed past_all in_turn first_faulty
  seen_append p [] ys = refl
  seen_append p (x ∷ xs) ys = go (first (rules_at s p x)) refl (seen_append (past s p x) xs ys)
    where
      go : (m : ℕ) → first (rules_at s p x) ≡ m → seen s (past s p x) (xs ++ ys) ≡ onward (seen s (past s p x) xs) (λ q. seen s q ys) → seen s p (x ∷ (xs ++ ys)) ≡ onward (seen s p (x ∷ xs)) (λ q. seen s q ys)
      go zero e more = passes p x (xs ++ ys) e ∙ more ∙ ap (λ (r : Seen). onward r (λ q. seen s q ys)) (sym (passes p x xs e))
      go (suc m) e more = decides p x (xs ++ ys) m e ∙ ap (λ (r : Seen). onward r (λ q. seen s q ys)) (sym (decides p x xs m e))

  pub texts_append : (p : ℕ) (xs ys : List Next) → texts_in s p (xs ++ ys) ≡ texts_in s p xs ++ texts_in s (past_all s p xs) ys
  unfolding past_all texts_in
  texts_append p [] ys = refl
  texts_append p (sign part c ∷ xs) ys = texts_append (p + 1) xs ys
  texts_append p (slash ∷ xs) ys = texts_append (p + 1) xs ys
  texts_append p (text ∷ xs) ys = ap (λ (l : List Optional). Some (text_at s p) ∷ l) (texts_append (text_end s p) xs ys)
  texts_append p (absent ∷ xs) ys = ap (λ (l : List Optional). None ∷ l) (texts_append p xs ys)

  -- ---- characters of one part
  pub characters_signs : (part : Part) (p : ℕ) (cs : List ℕ) → characters s p cs (number_of part) ≡ seen s p (signs part cs)
  unfolding characters placed past_all in_turn first_faulty pick
  characters_signs part p [] = refl
  characters_signs part p (c ∷ cs) = go (is_at s p c) refl (characters_signs part (p + 1) cs)
    where
      go : (b : Bool) → is_at s p c ≡ b → characters s (p + 1) cs (number_of part) ≡ seen s (p + 1) (signs part cs) → cond (is_at s p c) (characters s (p + 1) cs (number_of part)) (record { number = number_of part; place = p }) ≡ seen s p (sign part c ∷ signs part cs)
      go true w more =
          cond_true _ _ _ w
          ∙ more
          ∙ sym (passes p (sign part c) (signs part cs) (ap (λ (b : Bool). pick (not b) (number_of part) 0) w))
      go false w more =
          cond_false _ _ _ w
          ∙ sym (refuses part)
        where
          hits : (q : Part) → pick (not (is_at s p c)) (number_of q) 0 ≡ number_of q
          hits q = ap (λ (b : Bool). pick (not b) (number_of q) 0) w

          refuses : (q : Part) → seen s p (sign q c ∷ signs part cs) ≡ record { number = number_of q; place = p }
          refuses tag = decides p (sign tag c) (signs part cs) 89 (hits tag)
          refuses name = decides p (sign name c) (signs part cs) 90 (hits name)
          refuses quotes = decides p (sign quotes c) (signs part cs) 91 (hits quotes)
          refuses end = decides p (sign end c) (signs part cs) 92 (hits end)

  -- ---- the end: what is no letter is judged as any other character that is no slash
  pub slash_sign : (p : ℕ) (xs : List Next) → is_letter (get_or s p 0) ≡ false → seen s p (slash ∷ xs) ≡ seen s p (sign end 47 ∷ xs)
  unfolding pick
  slash_sign p xs w = go (first (rules_at s p (sign end 47))) refl
    where
      same : first (rules_at s p slash) ≡ first (rules_at s p (sign end 47))
      same = ap (λ (b : Bool). pick b 91 (pick (not (is_at s p 47)) 93 0)) w

      go : (m : ℕ) → first (rules_at s p (sign end 47)) ≡ m → seen s p (slash ∷ xs) ≡ seen s p (sign end 47 ∷ xs)
      go zero e = passes p slash xs (same ∙ e) ∙ sym (passes p (sign end 47) xs e)
      go (suc m) e = decides p slash xs m (same ∙ e) ∙ sym (decides p (sign end 47) xs m e)

  pub slash_letter : (p : ℕ) (xs : List Next) → is_letter (get_or s p 0) ≡ true → seen s p (slash ∷ xs) ≡ record { number = 91; place = p }
  unfolding pick
  slash_letter p xs w = decides p slash xs 90 (ap (λ (b : Bool). pick b 91 (pick (not (is_at s p 47)) 93 0)) w)

  -- ---- an attribute of a form, and those after it
  comes_of_lem : (p : ℕ) (a : Attribute) (form : List Attribute) → comes s p (a ∷ form) ≡ comes_of s p a ++ comes s (past_all s p (comes_of s p a)) form
  unfolding comes past_all
  comes_of_lem p a form = go (is_here s p a)
    where
      one : Bool → List Next
      one b = cond b (attribute (letter_of a)) (absent ∷ [])

      go : (b : Bool)
          → cond b (attribute (letter_of a) ++ comes s (past_all s p (attribute (letter_of a))) form) (absent ∷ comes s p form) ≡ one b ++ comes s (past_all s p (one b)) form
      go true = refl
      go false = refl

  one_text : (p : ℕ) (a : Attribute) → texts_in s p (comes_of s p a) ≡ text_no (texts_in s p (comes_of s p a)) 0 ∷ []
  unfolding texts_in ascii
  one_text p a = go (is_here s p a)
    where
      go : (b : Bool) → texts_in s p (cond b (attribute (letter_of a)) (absent ∷ [])) ≡ text_no (texts_in s p (cond b (attribute (letter_of a)) (absent ∷ []))) 0 ∷ []
      go true = refl
      go false = refl

-- ---- a list, read by a reader
module _ (was : LineReader) where
  -- its first part is refused
  pub fails : {A B : Type 0} (x : A) (y : B) (xs ys : List Next) (e : Refusal) (now : LineReader) → Walks was x (seen was.bytes.now was.place xs) (Err e) now → Walks was y (seen was.bytes.now was.place (xs ++ ys)) (Err e) now
  fails x y xs ys e now w = go (seen was.bytes.now was.place xs).number refl
    where
      go : (n : ℕ) → (seen was.bytes.now was.place xs).number ≡ n → Walks was y (seen was.bytes.now was.place (xs ++ ys)) (Err e) now
      go zero z = absurd (let q : Err e ≡ Ok x = w.answers ∙ ap (answered refuse (Ok x)) z in cc)
      go (suc n) z =
          let bad : (seen was.bytes.now was.place xs).number ≡ 0 → ⊥ = λ v. omega arith in
          let same : seen was.bytes.now was.place (xs ++ ys) ≡ seen was.bytes.now was.place xs = seen_append was.bytes.now was.place xs ys ∙ onward_bad (seen was.bytes.now was.place xs) (λ q. seen was.bytes.now q ys) bad in
          seen_as y was (seen was.bytes.now was.place xs) (seen was.bytes.now was.place (xs ++ ys)) (Err e) now (sym same) (anything x was y (seen was.bytes.now was.place xs) e now w)

  -- where it is read, the reader stands behind it
  pub behind : {A : Type 0} (x a : A) (xs : List Next) (now : LineReader) → Walks was x (seen was.bytes.now was.place xs) (Ok a) now → now ≡ reader_at was.bytes (past_all was.bytes.now was.place xs)
  behind x a xs now w = w.moves ∙ ap (λ (i : Seen). reader_at was.bytes i.place) (seen_good was.bytes.now was.place xs (none_refused x was _ a now w))

  -- and the rest is read from there
  pub goes : {A B : Type 0} (x a : A) (y : B) (xs ys : List Next) (mid : LineReader) (r : Result B Refusal) (now : LineReader)
      → Walks was x (seen was.bytes.now was.place xs) (Ok a) mid → Walks mid y (seen mid.bytes.now mid.place ys) r now → Walks was y (seen was.bytes.now was.place (xs ++ ys)) r now
  goes x a y xs ys mid r now w more =
      let at = behind x a xs mid w in
      let z = none_refused x was _ a mid w in
      let on : seen was.bytes.now was.place (xs ++ ys) ≡ seen was.bytes.now (past_all was.bytes.now was.place xs) ys =
      seen_append was.bytes.now was.place xs ys ∙ onward_good (seen was.bytes.now was.place xs) (λ q. seen was.bytes.now q ys) z ∙ ap (λ (i : Seen). seen was.bytes.now i.place ys) (seen_good was.bytes.now was.place xs z) in
      let there : seen mid.bytes.now mid.place ys ≡ seen was.bytes.now was.place (xs ++ ys) = ap (λ (m : LineReader). seen m.bytes.now m.place ys) at ∙ sym on in
      record {
        answers = more.answers ∙ ap (λ (i : Seen). answered refuse (Ok y) i.number) there;
        moves = more.moves ∙ ap₂ (λ (m : LineReader) (i : Seen). reader_at m.bytes i.place) at there;
      }

  -- characters of one part
  pub of_signs : {A : Type 0} (x : A) (part : Part) (cs : List ℕ) (r : Result A Refusal) (now : LineReader) → Walks was x (characters was.bytes.now was.place cs (number_of part)) r now → Walks was x (seen was.bytes.now was.place (signs part cs)) r now
  of_signs x part cs r now w = seen_as x was _ _ r now (characters_signs was.bytes.now part was.place cs) w

  -- a text
  pub over_text : {A : Type 0} (x : A) (q : ℕ) (ys : List Next) (r : Result A Refusal) (now : LineReader) → q ≡ text_end was.bytes.now was.place
      → Walks (reader_at was.bytes q) x (seen was.bytes.now q ys) r now → Walks was x (seen was.bytes.now was.place (text ∷ ys)) r now
  over_text x q ys r now e w =
      let same : seen was.bytes.now q ys ≡ seen was.bytes.now was.place (text ∷ ys) = ap (λ (k : ℕ). seen was.bytes.now k ys) e ∙ sym (passes was.bytes.now was.place text ys refl) in
      record { answers = w.answers ∙ ap (λ (i : Seen). answered refuse (Ok x) i.number) same; moves = w.moves ∙ ap (λ (i : Seen). reader_at was.bytes i.place) same }

-- ---- what a line is made of, read by a reader
module _ (was : LineReader) where
  -- ---- an attribute that must come
  module _ (c : ℕ) where
    abbrev pub Needed : Result Span Refusal → LineReader → Type 0
    Needed r now = Walks was (span_of (the_text (reads was (needed c)))) (reads was (needed c)).seen r now

    abbrev after_name : List Next
    after_name = sign quotes 34 ∷ text ∷ sign quotes 34 ∷ []

    pub name_fails : (e : Refusal) (now : LineReader) → Walks was (tt {0}) (characters was.bytes.now was.place (32 ∷ c ∷ 61 ∷ []) 91) (Err e) now → Needed (Err e) now
    unfolding ascii
    name_fails e now w = fails was (tt {0}) _ (signs name (32 ∷ c ∷ 61 ∷ [])) after_name e now (of_signs was (tt {0}) name (32 ∷ c ∷ 61 ∷ []) (Err e) now w)

    module _ (u : Unit {0}) (mid : LineReader) (one : Walks was (tt {0}) (characters was.bytes.now was.place (32 ∷ c ∷ 61 ∷ []) 91) (Ok u) mid) where
      abbrev the_name : Walks was (tt {0}) (seen was.bytes.now was.place (signs name (32 ∷ c ∷ 61 ∷ []))) (Ok u) mid
      the_name = of_signs was (tt {0}) name (32 ∷ c ∷ 61 ∷ []) (Ok u) mid one

      pub quote_fails : (e : Refusal) (now : LineReader) → Walks mid (tt {0}) (characters mid.bytes.now mid.place (34 ∷ []) 92) (Err e) now → Needed (Err e) now
      unfolding ascii
      quote_fails e now w =
          goes was (tt {0}) u _ (signs name (32 ∷ c ∷ 61 ∷ [])) after_name mid (Err e) now the_name
          (fails mid (tt {0}) _ (sign quotes 34 ∷ []) (text ∷ sign quotes 34 ∷ []) e now (of_signs mid (tt {0}) quotes (34 ∷ []) (Err e) now w))

      pub needed_read : (v : Unit {0}) (there : LineReader) (q : ℕ) (r : Result (Unit {0}) Refusal) (now : LineReader)
          → Walks mid (tt {0}) (characters mid.bytes.now mid.place (34 ∷ []) 92) (Ok v) there → q ≡ text_end there.bytes.now there.place
          → Walks (reader_at there.bytes q) (tt {0}) (characters there.bytes.now q (34 ∷ []) 92) r now
          → Needed (map_ok (λ _. record { start = there.place; end = q }) r) now
      unfolding ascii texts_in past_all
      needed_read v there q r now two e w =
          given_as _ was _ _ (map_ok (λ _. record { start = there.place; end = q }) r) now span
          (maps (λ _. record { start = there.place; end = q }) (tt {0}) was _ r now
          (goes was (tt {0}) u (tt {0}) (signs name (32 ∷ c ∷ 61 ∷ [])) after_name mid r now the_name
          (goes mid (tt {0}) v (tt {0}) (sign quotes 34 ∷ []) (text ∷ sign quotes 34 ∷ []) there r now opened
          (over_text there (tt {0}) q (sign quotes 34 ∷ []) r now e (of_signs (reader_at there.bytes q) (tt {0}) quotes (34 ∷ []) r now w)))))
        where
          opened : Walks mid (tt {0}) (seen mid.bytes.now mid.place (sign quotes 34 ∷ [])) (Ok v) there
          opened = of_signs mid (tt {0}) quotes (34 ∷ []) (Ok v) there two

          both : Walks was (tt {0}) (seen was.bytes.now was.place (signs name (32 ∷ c ∷ 61 ∷ []) ++ (sign quotes 34 ∷ []))) (Ok v) there
          both = goes was (tt {0}) u (tt {0}) (signs name (32 ∷ c ∷ 61 ∷ [])) (sign quotes 34 ∷ []) mid (Ok v) there the_name opened

          at : there ≡ reader_at was.bytes (past_all was.bytes.now was.place (signs name (32 ∷ c ∷ 61 ∷ []) ++ (sign quotes 34 ∷ [])))
          at = behind was (tt {0}) v (signs name (32 ∷ c ∷ 61 ∷ []) ++ (sign quotes 34 ∷ [])) there both

          span : ◌≡◌ {A = Span} (record { start = there.place; end = q }) (span_of (the_text (reads was (needed c))))
          span = ap (λ (k : ℕ). record { start = there.place; end = k }) e ∙ ap (λ (m : LineReader). record { start = m.place; end = text_end m.bytes.now m.place }) at

  -- an attribute that may be absent
  pub optional_absent : (c : ℕ) → is_here was.bytes.now was.place (optional c) ≡ false → Walks was (the_text (reads was (optional c))) (reads was (optional c)).seen (Ok None) was
  unfolding texts_in in_turn placed past_all
  optional_absent c h =
      record {
        answers = ap₂ (λ (n : ℕ) (o : Optional). answered refuse (Ok o) n) (sym (ap (λ (i : Seen). i.number) is)) (sym (ap (λ (xs : List Next). text_no (texts_in was.bytes.now was.place xs) 0) none));
        moves = ap (λ (i : Seen). reader_at was.bytes i.place) (sym is);
      }
    where
      none : comes_of was.bytes.now was.place (optional c) ≡ absent ∷ []
      none = cond_false (is_here was.bytes.now was.place (optional c)) (attribute c) (absent ∷ []) h

      is : seen was.bytes.now was.place (comes_of was.bytes.now was.place (optional c)) ≡ good was.place
      is = ap (seen was.bytes.now was.place) none ∙ passes was.bytes.now was.place absent [] refl ∙ seen_good was.bytes.now was.place [] refl

  -- the attribute is there
  module _ (c : ℕ) (h : is_here was.bytes.now was.place (optional c) ≡ true) where
    same : reads was (needed c) ≡ reads was (optional c)
    same = ap (stands was) (sym (cond_true (is_here was.bytes.now was.place (optional c)) (attribute c) (absent ∷ []) h))

    pub there_fails : (e : Refusal) (now : LineReader) → Walks was (span_of (the_text (reads was (needed c)))) (reads was (needed c)).seen (Err e) now → Walks was (the_text (reads was (optional c))) (reads was (optional c)).seen (Err e) now
    there_fails e now w = seen_as _ was _ _ (Err e) now (ap (λ (x : Stands). x.seen) same) (anything _ was _ _ e now w)

    pub there_read : (span : Span) (now : LineReader) → Walks was (span_of (the_text (reads was (needed c)))) (reads was (needed c)).seen (Ok span) now → Walks was (the_text (reads was (optional c))) (reads was (optional c)).seen (Ok (Some span)) now
    unfolding texts_in ascii
    there_read span now w =
        given_as _ was _ _ (Ok (Some span)) now (ap the_text same)
        (seen_as (the_text (reads was (needed c))) was _ _ (Ok (Some span)) now (ap (λ (x : Stands). x.seen) same) (maps Some _ was _ (Ok span) now w))

  -- ---- the end of a line
  abbrev after_blank : List Next
  after_blank = slash ∷ signs end (ascii ">\n")

  pub end_fails : (e : Refusal) (now : LineReader) → Walks was (tt {0}) (characters was.bytes.now was.place (32 ∷ []) 93) (Err e) now → Walks was (tt {0}) (seen was.bytes.now was.place the_end) (Err e) now
  end_fails e now w = fails was (tt {0}) (tt {0}) (sign end 32 ∷ []) after_blank e now (of_signs was (tt {0}) end (32 ∷ []) (Err e) now w)

  module _ (u : Unit {0}) (mid : LineReader) (one : Walks was (tt {0}) (characters was.bytes.now was.place (32 ∷ []) 93) (Ok u) mid) (b : ℕ) (eb : b ≡ get_or mid.bytes.now mid.place 0) (r : Bool) (er : r ≡ is_letter b) where
    from_blank : (a : Result (Unit {0}) Refusal) (now : LineReader) → Walks mid (tt {0}) (seen mid.bytes.now mid.place after_blank) a now → Walks was (tt {0}) (seen was.bytes.now was.place the_end) a now
    from_blank a now w = goes was (tt {0}) u (tt {0}) (sign end 32 ∷ []) after_blank mid a now (of_signs was (tt {0}) end (32 ∷ []) (Ok u) mid one) w

    pub end_letter : r ≡ true → Walks was (tt {0}) (seen was.bytes.now was.place the_end) (Err R.OtherAttribute) mid
    end_letter t =
        from_blank (Err R.OtherAttribute) mid
        (seen_as (tt {0}) mid (record { number = 91; place = mid.place }) _ (Err R.OtherAttribute) mid
        (sym (slash_letter mid.bytes.now mid.place (signs end (ascii ">\n")) (ap is_letter (sym eb) ∙ sym er ∙ t)))
        (record { answers = refused_by (tt {0}) R.OtherAttribute; moves = refl }))

    pub end_read : (a : Result (Unit {0}) Refusal) (now : LineReader) → r ≡ false → Walks mid (tt {0}) (characters mid.bytes.now mid.place (47 ∷ 62 ∷ 10 ∷ []) 93) a now → Walks was (tt {0}) (seen was.bytes.now was.place the_end) a now
    unfolding ascii
    end_read a now t w =
        from_blank a now
        (seen_as (tt {0}) mid _ _ a now (sym (slash_sign mid.bytes.now mid.place (signs end (62 ∷ 10 ∷ [])) (ap is_letter (sym eb) ∙ sym er ∙ t)))
        (of_signs mid (tt {0}) end (47 ∷ 62 ∷ 10 ∷ []) a now w))

  -- ---- the attributes of a form, and the end
  abbrev pub Rest : List Attribute → Result (List Optional) Refusal → LineReader → Type 0
  Rest form r now = Walks was (texts_in was.bytes.now was.place (comes was.bytes.now was.place form)) (seen was.bytes.now was.place (comes was.bytes.now was.place form)) r now

  pub rest_end : (r : Result (Unit {0}) Refusal) (now : LineReader) → Walks was (tt {0}) (seen was.bytes.now was.place the_end) r now → Rest [] (map_ok (λ _. []) r) now
  unfolding comes texts_in ascii
  rest_end r now w = maps (λ _. []) (tt {0}) was (seen was.bytes.now was.place the_end) r now w

  module _ (a : Attribute) (form : List Attribute) where
    abbrev X : List Next
    X = comes_of was.bytes.now was.place a

    pub rest_fails : {A : Type 0} (x : A) (e : Refusal) (now : LineReader) → Walks was x (reads was a).seen (Err e) now → Rest (a ∷ form) (Err e) now
    rest_fails x e now w =
        let same : X ++ comes was.bytes.now (past_all was.bytes.now was.place X) form ≡ comes was.bytes.now was.place (a ∷ form) = sym (comes_of_lem was.bytes.now was.place a form) in
        seen_as _ was _ _ (Err e) now (ap (seen was.bytes.now was.place) same) (fails was x _ X (comes was.bytes.now (past_all was.bytes.now was.place X) form) e now w)

    pub rest_more : (t : Optional) (mid : LineReader) (r : Result (List Optional) Refusal) (now : LineReader)
        → Walks was (the_text (reads was a)) (reads was a).seen (Ok t) mid
        → Walks mid (texts_in mid.bytes.now mid.place (comes mid.bytes.now mid.place form)) (seen mid.bytes.now mid.place (comes mid.bytes.now mid.place form)) r now
        → Rest (a ∷ form) (map_ok (λ l. t ∷ l) r) now
    rest_more t mid r now one more =
        given_as _ was _ _ (map_ok (λ l. t ∷ l) r) now texts
        (maps (λ l. t ∷ l) (texts_in mid.bytes.now mid.place Y) was _ r now
        (seen_as _ was _ _ r now (ap (seen was.bytes.now was.place) same) (goes was _ t (texts_in mid.bytes.now mid.place Y) X Y mid r now one more)))
      where
        Y : List Next
        Y = comes mid.bytes.now mid.place form

        at : mid ≡ reader_at was.bytes (past_all was.bytes.now was.place X)
        at = behind was _ t X mid one

        same : X ++ Y ≡ comes was.bytes.now was.place (a ∷ form)
        same = ap (λ (m : LineReader). X ++ comes m.bytes.now m.place form) at ∙ sym (comes_of_lem was.bytes.now was.place a form)

        texts : t ∷ texts_in mid.bytes.now mid.place Y ≡ texts_in was.bytes.now was.place (comes was.bytes.now was.place (a ∷ form))
        texts =
            ap₂ (λ (o : Optional) (l : List Optional). o ∷ l) (sym (is_given _ was _ t mid one)) (ap (λ (m : LineReader). texts_in m.bytes.now m.place Y) at)
            ∙ ap (λ (l : List Optional). l ++ texts_in was.bytes.now (past_all was.bytes.now was.place X) Y) (sym (one_text was.bytes.now was.place a))
            ∙ sym (texts_append was.bytes.now was.place X Y)
            ∙ ap (texts_in was.bytes.now was.place) same

  -- an attribute that must come has a text
  pub has_text : (c : ℕ) (is : Seen) (span : Span) (now : LineReader) → Walks was (span_of (the_text (reads was (needed c)))) is (Ok span) now
      → Walks was (the_text (reads was (needed c))) is (Ok (Some span)) now
  unfolding texts_in ascii
  has_text c is span now w = maps Some _ was is (Ok span) now w

  -- ---- a whole line: the tag, the attributes and the end
  module _ (form : List Attribute) {A : Type 0} (made : List Optional → A) where
    pub tag_fails : {B : Type 0} (x : B) (e : Refusal) (now : LineReader) → Walks was x (characters was.bytes.now was.place (60 ∷ 114 ∷ []) 90) (Err e) now → Walks was (made (line was form).texts) (line was form).seen (Err e) now
    unfolding ascii
    tag_fails x e now w = fails was x _ the_tag (comes was.bytes.now (past_all was.bytes.now was.place the_tag) form) e now (of_signs was x tag (60 ∷ 114 ∷ []) (Err e) now w)

    pub line_read : (u : Unit {0}) (mid : LineReader) (r : Result (List Optional) Refusal) (now : LineReader)
        → Walks was (tt {0}) (characters was.bytes.now was.place (60 ∷ 114 ∷ []) 90) (Ok u) mid
        → Walks mid (texts_in mid.bytes.now mid.place (comes mid.bytes.now mid.place form)) (seen mid.bytes.now mid.place (comes mid.bytes.now mid.place form)) r now
        → Walks was (made (line was form).texts) (line was form).seen (map_ok made r) now
    unfolding texts_in ascii
    line_read u mid r now w more =
        given_as _ was _ _ (map_ok made r) now (ap made texts)
        (maps made _ was _ r now (seen_as _ was _ _ r now (ap (λ (l : List Next). seen was.bytes.now was.place (the_tag ++ l)) same) (goes was (tt {0}) u _ the_tag Y mid r now one more)))
      where
        one : Walks was (tt {0}) (seen was.bytes.now was.place the_tag) (Ok u) mid
        one = of_signs was (tt {0}) tag (60 ∷ 114 ∷ []) (Ok u) mid w

        Y : List Next
        Y = comes mid.bytes.now mid.place form

        at : mid ≡ reader_at was.bytes (past_all was.bytes.now was.place the_tag)
        at = behind was (tt {0}) u the_tag mid one

        same : Y ≡ comes was.bytes.now (past_all was.bytes.now was.place the_tag) form
        same = ap (λ (m : LineReader). comes m.bytes.now m.place form) at

        texts : texts_in mid.bytes.now mid.place Y ≡ (line was form).texts
        texts =
            ap (λ (m : LineReader). texts_in m.bytes.now m.place Y) at
            ∙ sym (texts_append was.bytes.now was.place the_tag Y)
            ∙ ap (λ (l : List Next). texts_in was.bytes.now was.place (the_tag ++ l)) same
