-- What is written lies within the text, and what waits within the input.
use Rattle.std.proofs.Common.{◌≤◌, length, ◌≡◌}
use Rattle.listing.proofs.carry.Given as goal

abbrev pub invariant-loop : goal.invariant-loop
invariant-loop g l =
    (length l.input ≡ length l.initial.input) × (length l.text ≡ length l.initial.text) × (l.state.made ≤ length l.text) × (l.state.waiting ≤ length l.input)
