-- A kind of sample, by what it means, and the laws of one. Assumes nothing.
--     nothing     the neutral value
--     joined      a sample with another added to it. The sample stands on the left
--     taken       a sample with another taken from it. The sample stands on the left
--     held        the values that the type can hold. In the logic an i32 is any integer, so the laws speak of those that fit
use Rattle.std.specs.Prelude.{◌≡◌, Bool, true}

pub record Kind (K : Type 0) : Type 0 where
  pub nothing : K
  pub joined : K → K → K
  pub taken : K → K → K
  pub held : K → Bool

-- What lifting asks of a kind: joining and taking undo each other, and what comes of values that are held is held.
pub record KindLaws {K : Type 0} (k : Kind K) : Type 0 where
  pub nothing_held : k.held k.nothing ≡ true
  pub joined_held : (a b : K) → k.held a ≡ true → k.held b ≡ true → k.held (k.joined a b) ≡ true
  pub taken_held : (a b : K) → k.held a ≡ true → k.held b ≡ true → k.held (k.taken a b) ≡ true
  pub join_nothing : (a : K) → k.held a ≡ true → k.joined a k.nothing ≡ a
  pub take_undoes_join : (a b : K) → k.held a ≡ true → k.held b ≡ true → k.taken (k.joined a b) b ≡ a
  pub join_undoes_take : (a b : K) → k.held a ≡ true → k.held b ≡ true → k.joined (k.taken a b) b ≡ a

-- What differences of samples ask besides: they may be joined in any order. Lifting does without.
pub record DeltaLaws {K : Type 0} (k : Kind K) : Type 0 where
  pub commutes : (a b : K) → k.held a ≡ true → k.held b ≡ true → k.joined a b ≡ k.joined b a
  pub associates : (a b c : K) → k.held a ≡ true → k.held b ≡ true → k.held c ≡ true → k.joined (k.joined a b) c ≡ k.joined a (k.joined b c)
