pub use Rattle.turn.specs.Bridge
pub use Rattle.turn.specs.Laws
