-- A request that is accepted asks for something at each place up to the number of its groups, and for nothing at any other.
-- Assumes nothing.
use mathlib.Core.Path.{◌≡◌, refl, sym, ap, ◌∙◌}
use mathlib.Core.Bool.{Bool, cond}
use mathlib.Core.List.{List, [], ◌∷◌, map}
use Prim.Native.Nat.{ℕ, zero, suc, ◌+◌, ◌-◌, ◌*◌, ◌/◌, ◌≤◌, ◌<◌}
use native.Mathlib.Omega.{arith}
use lib.ListN.{length, get_or, drop, length-drop, length-map}
use borrow.Author.Tests.{le-ltb}
use Rattle.std.specs.Prelude.{None, Some, Ok}
use Rattle.wire.specs.Refusal.{first}
use Rattle.wire.proofs.Answer.{accepted_as}
use Rattle.wire.proofs.Rules.{none_first}
use Rattle.adi.specs.Groups.{at_place}
use Rattle.adi.specs.Head.{body_of}
use Rattle.adi.proofs.Groups.{group_of_size}
use Rattle.adi_request.specs.Layout.{asked_of, groups_of}
use Rattle.adi_request.specs.Reading.{request_rules, read_request, wholly, asked_at}
use Rattle.adi_request.specs.Promise.{Says}
use Rattle.adi_request.specs.declared.Asked.{Asked}
use Rattle.adi_request.proofs.Judging.{request_numbered, body_groups, at_place_lem, nothing_past}

module _ (s : List ℕ) (n : ℕ) (e : read_request s ≡ Ok n) where
  accepted : (first (request_rules s) ≡ 0) × (length (groups_of s) ≡ n)
  unfolding read_request
  accepted = accepted_as (length (groups_of s)) _ n e

  groups_as_many : length (groups_of s) ≡ n
  groups_as_many = accepted.1

  as_many : length (body_of s) / 7 ≡ n
  as_many = sym (body_groups s (none_first (request_rules s) (request_numbered s) accepted.0).1.0) ∙ groups_as_many

  pub asked_there : (place : ℕ) → 1 ≤ place → place ≤ n → (a : Asked) × (asked_at s place ≡ Some a)
  asked_there place some few =
      let within : place * 7 + 2 ≤ length s = omega (arith, as_many, length-drop 2 s) in
      (asked_of (drop (place * 7 - 5) s), sym (at_place_lem s place _ some within refl))

  pub asked_nowhere : (place : ℕ) → n < place → asked_at s place ≡ None
  asked_nowhere place many = nothing_past s place (omega (arith, as_many))

-- so it is read as groups: those that stand at its places
each_whole : (gs : List (List ℕ)) → ((k : ℕ) → k < length gs → wholly (get_or gs k []) ≡ Some (asked_of (get_or gs k [])))
    → (place : ℕ) → wholly (at_place [] gs place) ≡ at_place None (map Some (map asked_of gs)) place
each_whole gs h zero = refl
each_whole [] h (suc k) = refl
each_whole (g ∷ gs) h (suc zero) = h 0 (omega arith)
each_whole (g ∷ gs) h (suc (suc k)) = each_whole gs (λ j w. h (suc j) (omega arith)) (suc k)

pub accepted_says : (s : List ℕ) (n : ℕ) → read_request s ≡ Ok n → (asks : List Asked) × Says s asks
unfolding asked_at
accepted_says s n e = (
  map asked_of (groups_of s),
  record { count = e ∙ ap Ok (sym many ∙ sym (length-map (groups_of s) asked_of)); each = each_whole (groups_of s) (λ k. whole k) },
)
  where
    many : length (groups_of s) ≡ n
    many = groups_as_many s n e

    whole : (k : ℕ) → k < length (groups_of s) → wholly (get_or (groups_of s) k []) ≡ Some (asked_of (get_or (groups_of s) k []))
    whole k h =
        let g = get_or (groups_of s) k [] in
        let here : length g ≡ length (body_of s) - k * 7 = ap length (group_of_size 6 (body_of s) k) ∙ length-drop (k * 7) (body_of s) in
        let enough : 7 ≤ length g = omega (arith, here, h, many, as_many s n e) in
        ap (λ (b : Bool). cond b None (Some (asked_of g))) (le-ltb _ _ enough)

pub asked_at_0 : (s : List ℕ) → asked_at s 0 ≡ None
unfolding asked_at
asked_at_0 s = refl
