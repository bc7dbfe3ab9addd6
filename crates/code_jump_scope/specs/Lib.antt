pub mod UnitScoped
