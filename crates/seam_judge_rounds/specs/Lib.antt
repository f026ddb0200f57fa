pub mod Origins
pub mod HeldPlaces
pub mod Bounds
pub mod RoundClients
pub mod After
pub mod Points
